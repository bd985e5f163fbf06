-- Rank 0 lands what is ready in a namespace, or denies it.
use Rattle.std.proofs.Common.{◌≡◌, ◌≢◌, ℕ, zero, suc, ◌+◌, ◌<◌, ◌≤◌, ◌⊎◌, inl, inr, List, [], ◌∷◌, ◌++◌, length, map, Bool, true, false, cond, ◌&&◌, ◌||◌, not, if◌then◌else◌, option_map, Option, Some, None, unwrap_or, append-nil, Contains, refl, sym, ap, ◌∙◌, subst, arith, get_or, set, bytes_eq, append_assoc, true≢false}
use Rattle.std.specs.Prelude.{IfSome, IsSome, slice_index, slice_get}
use Rattle.std.specs.Option.{is_some}
use Rattle.std.specs.List.{list_any, AllPairs, AllByRecursion as Each}
use Rattle.std.specs.Option.{option_map_or}
use Rattle.std.specs.Cmp.Lexicographic.{bytes_decides}
use Rattle.std.proofs.Math.Bool.{or-false}
use Rattle.std.proofs.lemmas.Bool.{cases_eq}
use Rattle.std.proofs.lemmas.List.{length-set, get_or-set_same, get_or-set_other, get_or_default}
use Rattle.std.proofs.lemmas.List.Folds.{list_any-append}
use Rattle.std.proofs.lemmas.List.Elements.{Contains-append_right}
use Rattle.kvs_txn.specs.declared.txn.By.{By}
use Rattle.kvs_txn.specs.declared.txn.Group.{Group}
use Rattle.kvs_txn.specs.declared.answers.Refusal.{Refusal}
use Rattle.kvs_model.specs.Store.{Name, Store}
use Rattle.kvs_model.specs.History.{after}
use Rattle.kvs_rules.specs.declared.events.KvsEvent.{KvsEvent}
use Rattle.kvs_rules.specs.declared.events.KvsEvent.TheVariants as event
use Rattle.kvs_rules.specs.declared.events.KvsAnswer.TheVariants as answer
use Rattle.kvs_rules.specs.declared.events.KvsStep.TheVariants as kvs
use Rattle.kvs_rules.specs.Log.{Log, Moment, Happened, asks_now, answers_now, lands_now, denies_now, is_asked, is_author, same_command}
use Rattle.kvs_rules.specs.Namespaces.{Setting, Request, landed, primary, opened_names, newest_store, is_live, is_opened, is_primary, is_removed, scope_of, name_opened}
use Rattle.kvs_rules.specs.Brokers.{IsLegalHearing}
use Rattle.kvs_rules.specs.Landings.{AreFresh, IsFreshCommand, IsUnrivalled, IsUser, IsUsers, IsLegalLanding, IsLegalDenial, commands_of, names_of, names_of_group}
use Rattle.kvs_rules.specs.Answers.{IsLegalAfter, IsLegalAnswer}
use Rattle.kvs_rules.specs.Steps.{AreMadeBy, IsNumbered}
use Rattle.kvs_rules.proofs.Logs.{landed_push}
use Rattle.kvs_rules.proofs.Stores.{any_push}
use Rattle.kvs_rules.proofs.Asking.{command_is}
use Rattle.kvs_rules.specs.Sequence.{AreDistinct}
use Rattle.kvs_requests.specs.declared.rows.Row.{Row}
use Rattle.kvs_requests.specs.declared.rows.Stage.{Stage}
use Rattle.kvs_requests.specs.declared.rows.Work.TheVariants as work
use Rattle.kvs_requests.specs.declared.rows.Stage.TheVariants as stage
use Rattle.kvs_space.specs.Rulings.{IsLanding, IsRefusing}
use Rattle.kvs_requests.specs.Refused.{IsFalling, IsRefusedRow, AreRefused, AreSettled}
use Rattle.kvs_requests.specs.Rows.{AtPlace, IsPlaced, with_stage, settled, landed_stage}
use Rattle.kvs_space.specs.Space.{SpaceValue, seen, begun, known_at, name_at, carries, queued, is_authored, is_ready}
use Rattle.kvs_requests.specs.Stages.{joined_in}
use Rattle.std.proofs.lemmas.Option.{slice_get_cases, slice_get-get_or}
use Rattle.kvs_keys.specs.Value.{KeysValue}
use Rattle.kvs_space.specs.Sound.{IsLiveOrGone, IsSoundSpace}
use Rattle.kvs_keys.specs.Sound.{IsSound}
use Rattle.kvs_space.specs.Told.{landing, denial}
use Rattle.kvs_keys.specs.Agrees.{Agrees, IsWaiting, SpaceAgrees}
use Rattle.kvs_requests.specs.Agreement.{RowAgrees, RowsAgree, StageAgrees, IsUndecided, MayTell}
use Rattle.kvs_keys.proofs.Carried.{space-plain, commands-group, waiting, waiting-append, queue-asks, queue-split, each-left, each-map, fresh-left, behind-unauthored, IsAwaited, AsksOrPosts, each-both, all-joined, joined-once, or-one, untrue, authored-is}
use Rattle.kvs_keys.proofs.Delivering.{named-apart, other-names, heard-legal, heard-head, heard-rows}
use Rattle.kvs_space.proofs.Finding.{eq-true, set-all, set-kept}
use Rattle.kvs_space.proofs.Rulings.{ready-live}
use Rattle.kvs_keys.specs.Turns.{is_coming_stage}
use Rattle.kvs_keys.proofs.Turns.{coming-from, each-from, fence-stays, refused-from, settled-comes, turns-happened, turns-moved, waiting-unrivalled}
use Rattle.kvs_model.specs.OneStore.{AreOwn}
use Rattle.kvs_rules.proofs.Stores.{fresh_store}
use Rattle.kvs_rules.specs.Namespaces.{groups_landed}
use Rattle.kvs_keys.proofs.Owning.{first-own, landed-own, posted-each, ready-own}
use Rattle.kvs_keys.proofs.Heads.{IsHead, IsElsewhere, name-of, count-of, head-of, rows-of, agrees-of, head-then, opened-there, space-landed, space-denied, space-kept}
use Rattle.kvs_keys.proofs.Moving.{grows-silent}
use Rattle.kvs_requests.proofs.Later.{Grows, IsAside, need-kept, row-kept, told-silent}
use Rattle.kvs_keys.proofs.Respacing.{read-at, names-same, name-at, got-here, get-here, placed-then, set-twice, kept-room, respaced-sound, alike}
use Rattle.kvs_requests.proofs.Tables.{rows-ruled, aside-landed, aside-denied, named-groups, named-group, row-respaced}

pub any-kept : {A : Type 0} (p : A → Bool) (xs : List A) (x : A) → p x ≡ false → list_any p (xs ++ x ∷ []) ≡ list_any p xs
any-kept p xs x e = any_push p xs x ∙ ap (λ b. list_any p xs || b) e ∙ or-false _

pub last-stands : (log : Log) (m : Moment) → Contains (log ++ m ∷ []) m
last-stands log m = Contains-append_right log (m ∷ []) m (0, omega arith, refl)

pick : {X : Type 0} (a b : Bool) → (a || b) ≡ true → (a ≡ true → X) → (b ≡ true → X) → X
pick true b e f g = f refl
pick false b e f g = g e

-- an author of a landing is named by it
author-is : (by : By) (name : Option By) → is_author by name ≡ true → name ≡ Some by
author-is by None e = cc
author-is by (Some other) e = ap Some (sym (command_is by other e))

pub named-in : (by : By) (names : List (Option By)) → list_any (is_author by) names ≡ true → Contains names (Some by)
named-in by [] e = absurd (true≢false (sym e))
named-in by (name ∷ names) e = pick (is_author by name) (list_any (is_author by) names) e
    (λ t. (0, omega arith, author-is by name t))
    (λ t. let r = named-in by names t in (suc r.0, (let l = r.1 in omega arith), r.2))

some-ready : (groups rest ready : List Group) → groups ≢ [] → ready ≡ groups ++ rest → ready ≢ []
some-ready [] rest ready some e none = some refl
some-ready (g ∷ gs) rest ready some e none = cc

-- a landing of groups of a namespace, as its number and its groups are
pub landed-space : {set₀ : Setting} {log : Log} {size : ℕ} {s : SpaceValue} (a : SpaceAgrees set₀ log size s) (number : ℕ) (groups rest : List Group) → number ≡ suc (landed log s.name) → s.removed ≡ false → groups ≢ [] → s.merger.ready ≡ groups ++ rest
    → (authors : List (Option By)) → Each (λ by. IsAside by (Happened (event.Landed s.name number authors groups))) (waiting (queued (record { fences = s.merger.fences; ready = rest })))
    → SpaceAgrees set₀ (log ++ Happened (event.Landed s.name number authors groups) ∷ []) size
    (record { name = s.name; removed = s.removed; history = s.history ++ groups ∷ []; known = s.known; stores = s.stores; links = s.links; merger = record { fences = s.merger.fences; ready = rest } })
landed-space a number [] rest counts living some queue authors aside = absurd (some refl)
landed-space {set₀} {log} {size} {s} a number (g ∷ gs) rest counts living some queue authors aside =
    subst (λ n. SpaceAgrees set₀ (log ++ Happened (event.Landed s.name n authors (g ∷ gs)) ∷ []) size
    (record { name = s.name; removed = s.removed; history = s.history ++ (g ∷ gs) ∷ []; known = s.known; stores = s.stores; links = s.links; merger = record { fences = s.merger.fences; ready = rest } })) (sym counts)
    (space-landed a (landed log s.name) g gs rest refl living queue authors (subst (λ n. Each (λ by. IsAside by (Happened (event.Landed s.name n authors (g ∷ gs)))) (waiting (queued (record { fences = s.merger.fences; ready = rest })))) counts aside))

-- what a landing above number 0 of one or more transactions says of other namespaces
pub landed-elsewhere : (number : ℕ) (groups : List Group) (authors : List (Option By)) (name other : Name) → 0 < number → groups ≢ [] → other ≢ name → IsElsewhere other (Happened (event.Landed name number authors groups))
landed-elsewhere number [] authors name other above some ne = absurd (some refl)
landed-elsewhere zero (g ∷ gs) authors name other above some ne = absurd (omega arith)
landed-elsewhere (suc number) (g ∷ gs) authors name other above some ne =
    let off = named-apart other name ne in
    record { groups = ap (λ b. cond b (Some (g ∷ gs)) None) off; number = ap (λ b. cond b (Some (suc number)) None) off; removed = refl; silent = λ b. refl }

pub landed-opens : (number : ℕ) (groups : List Group) (authors : List (Option By)) (name : Name) → 0 < number → name_opened (Happened (event.Landed name number authors groups)) ≡ None
landed-opens zero groups authors name above = absurd (omega arith)
landed-opens (suc number) groups authors name above = refl

live : (a b : Bool) → a ≡ true → b ≡ false → (a && not b) ≡ true
live a b e f = rw (e, f) refl

pub given-store : (b : Bool) (x : Option Store) → b ≡ true → (if b then x else None) ≡ x
given-store b x e = ap (λ t. if t then x else None) e

-- a namespace of the service of keys, in which something is ready
module _ {v : KeysValue} (s : IsSound v) (k : ℕ) (within : k < length v.spaces) (old : SpaceValue) (read : old ≡ get_or v.spaces k old) (ready : old.merger.ready ≢ []) where
  pub sound-old : IsSoundSpace v.fanout v.grant old
  sound-old = subst (IsSoundSpace v.fanout v.grant) (sym read) (s.spaces k old within)

  pub long-old : length old.known ≡ v.size
  long-old = ap (λ x. length x.known) read ∙ s.brokers k old within

  pub living : old.removed ≡ false
  living = ready-live old.name old.removed old.merger sound-old.living ready

  module _ {set₀ : Setting} {log : Log} (a : Agrees v set₀ log) where
    pub here : SpaceAgrees set₀ log v.size old
    here = subst (SpaceAgrees set₀ log v.size) (sym read) (a.spaces k old within)

    pub opened-here : is_opened log old.name ≡ true
    opened-here = ap (λ x. is_opened log x.name) read ∙ opened-there (head-of a) k old within

    pub live-here : is_live log old.name ≡ true
    live-here = live (is_opened log old.name) (is_removed log old.name) opened-here (here.removed ∙ living)

    pub newest-here : newest_store set₀ log old.name ≡ Some (get_or old.stores 0 [])
    newest-here =
        let c : ◌≡◌ {A = ℕ} (cond old.removed 1 0) 0 = ap (λ b. cond b 1 0) living in
        let l = here.last in
        let n = sound-old.newest in
        let count : landed log old.name ≡ seen (slice_index old.known 0) (length old.history) = omega arith in
        fresh_store set₀ v.grant log old.name (landed log old.name) a.base
        ∙ given-store (is_opened log old.name) _ opened-here
        ∙ ap (λ ls. after (scope_of old.name) ls (landed log old.name) (begun v.grant old.name)) here.history
        ∙ ap (λ n. after (scope_of old.name) old.history n (begun v.grant old.name)) count
        ∙ sound-old.replicas.each 0 sound-old.some

    -- a command that waits elsewhere is in no landing of this namespace
    elsewhere-joined : (groups rest : List Group) → queued old.merger ≡ groups ++ rest → (j : ℕ) → j ≢ k → (name : Name) → name ≢ old.name → (by : By) → IsAwaited set₀ v.rows j by → AsksOrPosts set₀ name by → list_any (is_authored by) groups ≡ false
    elsewhere-joined groups rest queue j ne name other by (inl none) (inl some) = absurd (true≢false (sym some ∙ ap is_some none))
    elsewhere-joined groups rest queue j ne name other by (inl none) (inr first) =
        untrue (list_any (is_authored by) groups) (λ t. apart-here (authored-is (AsksOrPosts set₀ old.name) by groups t
        (each-left (AsksOrPosts set₀ old.name) (waiting groups) (waiting rest) (subst (Each (AsksOrPosts set₀ old.name)) (ap waiting queue ∙ waiting-append groups rest) (queue-asks set₀ old.name old.merger here.kinds here.joining)))))
      where
        apart-here : AsksOrPosts set₀ old.name by → ⊥
        apart-here (inl some) = true≢false (sym some ∙ ap is_some none)
        apart-here (inr here) = other ((bytes_decides name primary).0 first ∙ sym ((bytes_decides old.name primary).0 here))
    elsewhere-joined groups rest queue j ne name other by (inr h) kind =
        untrue (list_any (is_authored by) groups) (λ t.
        let row : Row = get_or v.rows h.at (record { by = by; broker = 0; namespace = []; need = 0; stage = stage.Joined 0 work.Commit }) in
        let is : row.by ≡ by = h.is _ in
        let carried : carries old by ≡ true = ap (list_any (is_authored by)) queue ∙ list_any-append (is_authored by) groups rest ∙ or-one (list_any (is_authored by) groups) _ t in
        let tied : joined_in k row.stage ≡ true = (a.rows h.at _ h.within).tied k old within ∙ ap (λ x. carries x row.by) (sym read) ∙ ap (carries old) is ∙ carried in
        ne (joined-once row.stage j k (h.joined _) tied))

    -- the commands of other namespaces are in no landing of this one
    pub others-unauthored : (groups rest : List Group) → queued old.merger ≡ groups ++ rest → (j : ℕ) (d : SpaceValue) → j < length v.spaces → j ≢ k → Each (λ by. list_any (is_authored by) groups ≡ false) (waiting (queued (get_or v.spaces j d).merger))
    others-unauthored groups rest queue j d l ne =
        each-both (IsAwaited set₀ v.rows j) (AsksOrPosts set₀ (get_or v.spaces j d).name) (λ by. list_any (is_authored by) groups ≡ false) (waiting (queued (get_or v.spaces j d).merger)) (all-joined (rows-of a) j d l (a.spaces j d l).fresh (space-plain (a.spaces j d l)))
        (queue-asks set₀ (get_or v.spaces j d).name (get_or v.spaces j d).merger (a.spaces j d l).kinds (a.spaces j d l).joining)
        (λ by h kind. elsewhere-joined groups rest queue j ne (get_or v.spaces j d).name (λ q. other-names v.spaces s.apart k within j d l ne (q ∙ ap (λ x. x.name) (read ∙ get_or_default v.spaces k old d within))) by h kind)

    -- a row of a command in a landing has joined the namespace
    pub author-joined : (groups rest : List Group) → queued old.merger ≡ groups ++ rest → (row : Row) → RowAgrees a.entered set₀ log v.spaces row → list_any (is_authored row.by) groups ≡ true → joined_in k row.stage ≡ true
    author-joined groups rest queue row r t = r.tied k old within ∙ ap (λ x. carries x row.by) (sym read) ∙ ap (list_any (is_authored row.by)) queue ∙ list_any-append (is_authored row.by) groups rest ∙ or-one (list_any (is_authored row.by) groups) _ t

    -- what is behind a landing carries none of its authors
    pub author-gone : (groups rest : List Group) → queued old.merger ≡ groups ++ rest → (by : By) → list_any (is_authored by) groups ≡ true → list_any (is_authored by) rest ≡ false
    author-gone groups rest queue by t = untrue (list_any (is_authored by) rest) (λ u.
        true≢false (sym t ∙ authored-is (λ x. list_any (is_authored x) groups ≡ false) by rest u (behind-unauthored groups rest (subst (λ q. AreDistinct (waiting q)) queue here.fresh.differ))))

    -- what is behind it carries the others as before
    pub other-stays : (groups rest : List Group) → queued old.merger ≡ groups ++ rest → (by : By) → list_any (is_authored by) groups ≡ false → list_any (is_authored by) rest ≡ carries old by
    other-stays groups rest queue by e = sym (ap (list_any (is_authored by)) queue ∙ list_any-append (is_authored by) groups rest ∙ ap (λ b. b || list_any (is_authored by) rest) e)

    -- it is the namespace of the request
    pub space-of : (place : ℕ) (name : Name) → place ≡ k → name_at v.spaces place ≡ Some name → name ≡ old.name
    space-of place name e n =
        let same : Some name ≡ Some old.name = sym n ∙ ap (name_at v.spaces) e ∙ ap (option_map (λ x. x.name)) (got-here v.spaces k within old old read refl) in
        cc

-- transactions land
module _ {v : KeysValue} (s : IsSound v) (k : ℕ) (within : k < length v.spaces) (old new : SpaceValue) (read : old ≡ get_or v.spaces k old) (number : ℕ) (groups : List Group) (h : IsLanding number groups old new) where
  ready : old.merger.ready ≢ []
  ready = some-ready groups new.merger.ready old.merger.ready h.some h.queue

  -- the namespace when rank 0 hasn't heard of it yet
  between : SpaceValue
  between = record { name = old.name; removed = old.removed; history = old.history ++ groups ∷ []; known = old.known; stores = old.stores; links = old.links; merger = record { fences = old.merger.fences; ready = new.merger.ready } }

  module _ {set₀ : Setting} {log : Log} (a : Agrees v set₀ log) where
    sa : SpaceAgrees set₀ log v.size old
    sa = here s k within old read ready a

    counts : number ≡ suc (landed log old.name)
    counts = h.next ∙ (sound-old s k within old read ready).newest ∙ sym sa.last

    above : 0 < number
    above = let c = counts in omega arith

    pub landing-legal : IsLegalLanding set₀ log old.name number (names_of groups) groups
    landing-legal = record {
      fresh = fresh-left log groups (queued (record { fences = old.merger.fences; ready = new.merger.ready })) (subst (λ q. AreFresh set₀ log (waiting q)) (queue-split old.merger.fences old.merger.ready groups new.merger.ready h.queue) sa.fresh);
      form = inr (inr (record {
        named = refl;
        some = h.some;
        next = counts;
        living = live-here s k within old read ready a;
        kinds = each-left (IsWaiting set₀ old.name) groups new.merger.ready (subst (Each (IsWaiting set₀ old.name)) h.queue sa.kinds);
        old = get_or old.stores 0 [];
        standing = newest-here s k within old read ready a;
        new = h.made.0;
        made = h.made.1;
      }));
      first = λ settled.
          each-left (IsUnrivalled set₀ log old.name) (waiting groups) (waiting (queued (record { fences = old.merger.fences; ready = new.merger.ready })))
          (subst (Each (IsUnrivalled set₀ log old.name)) (waiting-append groups (queued (record { fences = old.merger.fences; ready = new.merger.ready })))
          (subst (λ q. Each (IsUnrivalled set₀ log old.name) (waiting q)) (queue-split old.merger.fences old.merger.ready groups new.merger.ready h.queue) (waiting-unrivalled a settled k within old read)));
    }

    aside : (by : By) → list_any (is_authored by) groups ≡ false → IsAside by (Happened (event.Landed old.name number (names_of groups) groups))
    aside by e = aside-landed by old.name number groups e

    behind : Each (λ by. IsAside by (Happened (event.Landed old.name number (names_of groups) groups))) (waiting (queued (record { fences = old.merger.fences; ready = new.merger.ready })))
    behind = each-map (λ by. list_any (is_authored by) groups ≡ false) (λ by. IsAside by (Happened (event.Landed old.name number (names_of groups) groups))) (waiting (queued (record { fences = old.merger.fences; ready = new.merger.ready })))
        (behind-unauthored groups (queued (record { fences = old.merger.fences; ready = new.merger.ready })) (subst (λ q. AreDistinct (waiting q)) (queue-split old.merger.fences old.merger.ready groups new.merger.ready h.queue) sa.fresh.differ)) aside

    elsewhere : (other : Name) → other ≢ old.name → IsElsewhere other (Happened (event.Landed old.name number (names_of groups) groups))
    elsewhere other ne = landed-elsewhere number groups (names_of groups) old.name other above h.some ne

    -- the transactions that land make own links
    landing-own : Each AreOwn groups
    landing-own = first-own groups new.merger.ready (subst (Each AreOwn) h.queue (ready-own set₀ old.name old.merger.ready a.links sa.kinds (posted-each old.name old.merger.ready (get_or old.stores 0 []) (sound-old s k within old read ready).posts)))

    owned-groups : (space : Name) → IfSome (groups_landed space (Happened (event.Landed old.name number (names_of groups) groups))) (Each AreOwn)
    owned-groups space = landed-own space old.name number (names_of groups) groups landing-own

    first-head : IsHead v.size v.fanout v.grant (set v.spaces k between) set₀ (log ++ Happened (event.Landed old.name number (names_of groups) groups) ∷ [])
    unfolding between
    first-head = head-then (head-of a) (set v.spaces k between) (Happened (event.Landed old.name number (names_of groups) groups)) owned-groups (names-same v.spaces k within old between read refl) (landed-opens number groups (names_of groups) old.name above)
        (set-all (SpaceAgrees set₀ (log ++ Happened (event.Landed old.name number (names_of groups) groups) ∷ []) v.size) v.spaces k between
        (landed-space sa number groups new.merger.ready counts (living s k within old read ready) h.some h.queue (names_of groups) behind)
        (λ j d l ne. space-kept ((head-of a).each j d l) (Happened (event.Landed old.name number (names_of groups) groups))
        (elsewhere (get_or v.spaces j d).name (λ q. other-names v.spaces s.apart k within j d l ne (q ∙ ap (λ x. x.name) (read-at v.spaces k within old between read refl d))))
        (each-map (λ by. list_any (is_authored by) groups ≡ false) (λ by. IsAside by (Happened (event.Landed old.name number (names_of groups) groups))) (waiting (queued (get_or v.spaces j d).merger))
        (others-unauthored s k within old read ready a groups (queued (record { fences = old.merger.fences; ready = new.merger.ready })) (queue-split old.merger.fences old.merger.ready groups new.merger.ready h.queue) j d l ne) aside)))
        (λ space e. elsewhere space (λ q. true≢false (sym (opened-here s k within old read ready a) ∙ ap (is_opened log) (sym q) ∙ e)))

    same-landed : (space : Name) → (landed (log ++ Happened (event.Landed old.name number (names_of groups) groups) ∷ []) space ≡ landed log space) ⊎ ((space ≡ old.name) × (landed (log ++ Happened (event.Landed old.name number (names_of groups) groups) ∷ []) space ≡ number))
    same-landed space = by (bytes_eq space old.name) refl
      where
        by : (t : Bool) → bytes_eq space old.name ≡ t → (landed (log ++ Happened (event.Landed old.name number (names_of groups) groups) ∷ []) space ≡ landed log space) ⊎ ((space ≡ old.name) × (landed (log ++ Happened (event.Landed old.name number (names_of groups) groups) ∷ []) space ≡ number))
        by true e = inr ((bytes_decides space old.name).0 e, landed_push log _ space ∙ ap (λ b. unwrap_or (cond b (Some number) None) (landed log space)) e)
        by false e = inl (landed_push log _ space ∙ ap (λ b. unwrap_or (cond b (Some number) None) (landed log space)) e)

    grows : Grows log (Happened (event.Landed old.name number (names_of groups) groups))
    grows = record {
      told = told-silent log _ (λ b space. refl);
      rises = λ space. up space (same-landed space);
      ends = λ space r. over space r (same-landed space);
    } where
      up : (space : Name) → (landed (log ++ Happened (event.Landed old.name number (names_of groups) groups) ∷ []) space ≡ landed log space) ⊎ ((space ≡ old.name) × (landed (log ++ Happened (event.Landed old.name number (names_of groups) groups) ∷ []) space ≡ number)) → landed log space ≤ landed (log ++ Happened (event.Landed old.name number (names_of groups) groups) ∷ []) space
      up space (inl e) = omega arith
      up space (inr e) = let c = counts in let n : landed log space ≡ landed log old.name = ap (landed log) e.0 in let m = e.1 in omega arith

      over : (space : Name) → is_removed log space ≡ true → (landed (log ++ Happened (event.Landed old.name number (names_of groups) groups) ∷ []) space ≡ landed log space) ⊎ ((space ≡ old.name) × (landed (log ++ Happened (event.Landed old.name number (names_of groups) groups) ∷ []) space ≡ number)) → landed (log ++ Happened (event.Landed old.name number (names_of groups) groups) ∷ []) space ≡ landed log space
      over space r (inl e) = e
      over space r (inr e) = absurd (true≢false (sym r ∙ ap (is_removed log) e.0 ∙ sa.removed ∙ living s k within old read ready))

    -- the rows
    carries-there : (by : By) → ((t : list_any (is_authored by) groups ≡ false) → (j : ℕ) (d : SpaceValue) → j < length v.spaces → carries (get_or (set v.spaces k between) j d) by ≡ carries (get_or v.spaces j d) by)
    unfolding between
    carries-there by t j d l = set-kept (λ x. carries x by) v.spaces k between (λ e. other-stays s k within old read ready a groups (queued (record { fences = old.merger.fences; ready = new.merger.ready })) (queue-split old.merger.fences old.merger.ready groups new.merger.ready h.queue) by t ∙ ap (λ x. carries x by) (read-at v.spaces k within old between read refl e)) j d l

    names-there : (j : ℕ) → name_at (set v.spaces k between) j ≡ name_at v.spaces j
    unfolding between
    names-there j = name-at v.spaces k within old between read refl j

    row-stays : (row : Row) → RowAgrees a.entered set₀ log v.spaces row → list_any (is_authored row.by) groups ≡ false → RowAgrees a.entered set₀ (log ++ Happened (event.Landed old.name number (names_of groups) groups) ∷ []) (set v.spaces k between) row
    row-stays row r e =
        row-respaced (set v.spaces k between) (length-set v.spaces k between) names-there row (carries-there row.by e)
        (row-kept a.entered set₀ log v.spaces (Happened (event.Landed old.name number (names_of groups) groups)) row grows (λ other accepted told kept q. cc) (aside row.by e) r)

    carries-none : (row : Row) → RowAgrees a.entered set₀ log v.spaces row → list_any (is_authored row.by) groups ≡ true → (j : ℕ) (d : SpaceValue) → j < length (set v.spaces k between) → false ≡ carries (get_or (set v.spaces k between) j d) row.by
    unfolding between
    carries-none row r t j d l = elim (cases_eq j k) [
      | inl e ↦
          let q : get_or (set v.spaces k between) j d ≡ between = ap (λ i. get_or (set v.spaces k between) i d) e ∙ get_or-set_same v.spaces k between d within in
          sym (ap (λ x. carries x row.by) q ∙ author-gone s k within old read ready a groups (queued (record { fences = old.merger.fences; ready = new.merger.ready })) (queue-split old.merger.fences old.merger.ready groups new.merger.ready h.queue) row.by t)
      | inr ne ↦
          let lj = subst (λ n. j < n) (length-set v.spaces k between) l in
          let off : joined_in j row.stage ≡ false = untrue (joined_in j row.stage) (λ u. ne (joined-once row.stage j k u (author-joined s k within old read ready a groups (queued (record { fences = old.merger.fences; ready = new.merger.ready })) (queue-split old.merger.fences old.merger.ready groups new.merger.ready h.queue) row r t))) in
          sym off ∙ r.tied j d lj ∙ ap (λ x. carries x row.by) (sym (get_or-set_other v.spaces k j between d ne))
    ]

    row-landed : (row : Row) → RowAgrees a.entered set₀ log v.spaces row → list_any (is_authored row.by) groups ≡ true → RowAgrees a.entered set₀ (log ++ Happened (event.Landed old.name number (names_of groups) groups) ∷ []) (set v.spaces k between) (with_stage (landed_stage k number row.stage) row)
    row-landed row r t = by row.stage refl (author-joined s k within old read ready a groups (queued (record { fences = old.merger.fences; ready = new.merger.ready })) (queue-split old.merger.fences old.merger.ready groups new.merger.ready h.queue) row r t)
      where
        m : Moment
        m = Happened (event.Landed old.name number (names_of groups) groups)

        by : (st : Stage) → row.stage ≡ st → joined_in k row.stage ≡ true → RowAgrees a.entered set₀ (log ++ Happened (event.Landed old.name number (names_of groups) groups) ∷ []) (set v.spaces k between) (with_stage (landed_stage k number row.stage) row)
        by (stage.Joined place work) e j =
            let staged = subst (StageAgrees a.entered set₀ log v.spaces row.by r.request) e r.staged in
            let at : place ≡ k = joined-once row.stage place k (ap (joined_in place) e ∙ eq-true place place refl) j in
            let is : r.request.namespace ≡ old.name = space-of s k within old read ready a place r.request.namespace at staged.2 in
            subst (λ st. RowAgrees a.entered set₀ (log ++ Happened (event.Landed old.name number (names_of groups) groups) ∷ []) (set v.spaces k between) (with_stage (landed_stage k number st) row)) (sym e)
            (record {
              asked = any-kept (asks_now row.by) log _ refl ∙ r.asked;
              unanswered = any-kept (answers_now row.by) log _ refl ∙ r.unanswered;
              request = r.request;
              made = r.made;
              home = r.home;
              inside = r.inside;
              keys = r.keys;
              needed = need-kept log _ row.by r.request row.need grows refl r.asked r.needed;
              staged = (
                staged.1,
                any-kept (denies_now row.by) log _ refl ∙ staged.0.undenied,
                record {
                  authors = names_of groups;
                  groups = groups;
                  landing = subst (λ n. Contains (log ++ Happened (event.Landed old.name number (names_of groups) groups) ∷ []) (Happened (event.Landed n number (names_of groups) groups))) (sym is) (last-stands log _);
                  named = named-in row.by (names_of groups) (named-groups row.by groups ∙ t);
                },
                names-there k ∙ sym (ap (name_at v.spaces) at) ∙ staged.2,
              );
              tied = λ i d l. carries-none row r t i d l;
            })
        by (stage.Rising from to asks) e j = absurd (true≢false (sym j ∙ ap (joined_in k) e))
        by (stage.Arrived asks) e j = absurd (true≢false (sym j ∙ ap (joined_in k) e))
        by (stage.Landed place n work) e j = absurd (true≢false (sym j ∙ ap (joined_in k) e))
        by (stage.Falling from to given) e j = absurd (true≢false (sym j ∙ ap (joined_in k) e))
        by (stage.Ended given) e j = absurd (true≢false (sym j ∙ ap (joined_in k) e))
        by (stage.Returning from to place asked) e j = absurd (true≢false (sym j ∙ ap (joined_in k) e))
        by (stage.Parked place asked) e j = absurd (true≢false (sym j ∙ ap (joined_in k) e))
        by (stage.Held n given) e j = absurd (true≢false (sym j ∙ ap (joined_in k) e))

    row-settled : (row : Row) → RowAgrees a.entered set₀ log v.spaces row → RowAgrees a.entered set₀ (log ++ Happened (event.Landed old.name number (names_of groups) groups) ∷ []) (set v.spaces k between) (settled k number groups row)
    row-settled row r = by (list_any (is_authored row.by) groups) refl
      where
        by : (t : Bool) → list_any (is_authored row.by) groups ≡ t → RowAgrees a.entered set₀ (log ++ Happened (event.Landed old.name number (names_of groups) groups) ∷ []) (set v.spaces k between) (settled k number groups row)
        by true e = subst (λ t. RowAgrees a.entered set₀ (log ++ Happened (event.Landed old.name number (names_of groups) groups) ∷ []) (set v.spaces k between) (if t then with_stage (landed_stage k number row.stage) row else row)) (sym e) (row-landed row r e)
        by false e = subst (λ t. RowAgrees a.entered set₀ (log ++ Happened (event.Landed old.name number (names_of groups) groups) ∷ []) (set v.spaces k between) (if t then with_stage (landed_stage k number row.stage) row else row)) (sym e) (row-stays row r e)

    module _ (items : List Row) (all : AreSettled k number groups v.rows items) where
      same-by : (row : Row) → (settled k number groups row).by ≡ row.by
      same-by row = by (list_any (is_authored row.by) groups)
        where
          by : (t : Bool) → (if t then with_stage (landed_stage k number row.stage) row else row).by ≡ row.by
          by true = refl
          by false = refl

      first-rows : RowsAgree a.entered set₀ (log ++ Happened (event.Landed old.name number (names_of groups) groups) ∷ []) (set v.spaces k between) items
      first-rows = rows-ruled (rows-of a) (set v.spaces k between) items (Happened (event.Landed old.name number (names_of groups) groups)) all.same_len
          (λ j d l. ap (λ r. r.by) (all.each j d l) ∙ same-by (get_or v.rows j d)) (λ by. refl)
          (λ by some e. aside by (untrue (list_any (is_authored by) groups) (λ t. true≢false (sym (asking by t some) ∙ e))))
          (λ j d l. subst (RowAgrees a.entered set₀ (log ++ Happened (event.Landed old.name number (names_of groups) groups) ∷ []) (set v.spaces k between)) (sym (all.each j d l)) (row-settled (get_or v.rows j d) (a.rows j d l)))
        where
          asking : (by : By) → list_any (is_authored by) groups ≡ true → IsSome (set₀.asks by) → is_asked by log ≡ true
          asking by t = (authored-is (IsFreshCommand set₀ log) by groups t landing-legal.fresh.fresh).asked

      low : number ≤ landed (log ++ Happened (event.Landed old.name number (names_of groups) groups) ∷ []) old.name
      low = let e : landed (log ++ Happened (event.Landed old.name number (names_of groups) groups) ∷ []) old.name ≡ number = landed_push log _ old.name ∙ ap (λ b. unwrap_or (cond b (Some number) None) (landed log old.name)) ((bytes_decides old.name old.name).1 refl) in omega arith

      less : slice_index old.known 0 < suc number
      less = let n = h.next in omega arith

      long-set : k < length (set v.spaces k between)
      long-set = subst (λ n. k < n) (sym (length-set v.spaces k between)) within

      read-set : between ≡ get_or (set v.spaces k between) k between
      read-set = sym (get_or-set_same v.spaces k between between within)

      apart-set : AllPairs (λ one other. one.name ≢ other.name) (set v.spaces k between)
      unfolding between
      apart-set i j d lt l e =
          let lj = subst (λ n. j < n) (length-set v.spaces k between) l in
          let kept = set-kept (λ x. x.name) v.spaces k between (λ q. ap (λ x. x.name) (read-at v.spaces k within old between read refl q)) in
          s.apart i j d lt lj (sym (kept i d (omega arith)) ∙ e ∙ kept j d lj)

      pub hearing-legal : IsLegalHearing set₀ (log ++ Happened (event.Landed old.name number (names_of groups) groups) ∷ []) 0 old.name number
      unfolding between
      hearing-legal = heard-legal apart-set k long-set between new read-set (long-old s k within old read ready) first-head first-rows 0 number s.size less low (inl refl)

      pub landing-agrees : Agrees (record { spent = false; size = v.size; fanout = v.fanout; grant = v.grant; spaces = set v.spaces k new; rows = items }) set₀ (log ++ map Happened (landing old.name number groups))
      unfolding between
      landing-agrees =
          let known : new.known ≡ set old.known 0 (suc number) = h.known ∙ ap (set old.known 0) (let e : number + 1 ≡ suc number = omega arith in e) in
          let merger : new.merger ≡ record { fences = old.merger.fences; ready = new.merger.ready } = λ j. record { fences = h.fences j; ready = new.merger.ready } in
          let head = heard-head apart-set k long-set between new read-set (long-old s k within old read ready) first-head first-rows 0 number s.size less low h.name h.removed h.history known merger in
          let rows = heard-rows apart-set k long-set between new read-set (long-old s k within old read ready) first-head first-rows 0 number s.size less low h.name h.removed h.history known merger in
          subst (Agrees (record { spent = false; size = v.size; fanout = v.fanout; grant = v.grant; spaces = set v.spaces k new; rows = items }) set₀) (append_assoc log (_ ∷ []) (_ ∷ []))
          (subst (λ ss. Agrees (record { spent = false; size = v.size; fanout = v.fanout; grant = v.grant; spaces = ss; rows = items }) set₀ ((log ++ Happened (event.Landed old.name number (names_of groups) groups) ∷ []) ++ Happened (event.Heard 0 old.name number) ∷ [])) (set-twice v.spaces k between new)
          (agrees-of {v = record { spent = false; size = v.size; fanout = v.fanout; grant = v.grant; spaces = set (set v.spaces k between) k new; rows = items }} head rows
          (λ settled. turns-moved (turns-happened (turns-happened (a.turns settled) (event.Landed old.name number (names_of groups) groups)) (event.Heard 0 old.name number)) (set (set v.spaces k between) k new) items
          (λ space fence count f. fence-stays (set v.spaces k between) k long-set between new read-set h.name h.fences space fence count (fence-stays v.spaces k within old between read refl refl space fence count f))
          (coming-from (each-from items v.rows all.same_len (λ j d l. let q = settled-comes k number groups (get_or v.rows j d) in (ap (λ r. r.by) (all.each j d l) ∙ q.0, λ c. q.1 (ap (λ r. is_coming_stage r.stage) (sym (all.each j d l)) ∙ c))))))))

      pub landing-is-legal : IsLegalAfter set₀ log (map Happened (landing old.name number groups))
      landing-is-legal = (landing-legal, (hearing-legal, tt))

  -- the service of keys after it
  module _ (items : List Row) (all : AreSettled k number groups v.rows items) where
    rises : slice_index old.known 0 ≤ slice_index new.known 0
    rises = let e : slice_index new.known 0 ≡ number + 1 = ap (λ n. slice_index n 0) h.known ∙ get_or-set_same old.known 0 (number + 1) 0 (sound-old s k within old read ready).some in let n = h.next in omega arith

    known-here : number < known_at (set v.spaces k new) k 0
    known-here =
        let e : slice_index new.known 0 ≡ number + 1 = ap (λ n. slice_index n 0) h.known ∙ get_or-set_same old.known 0 (number + 1) 0 (sound-old s k within old read ready).some in
        let g : known_at (set v.spaces k new) k 0 ≡ slice_index new.known 0 = ap (λ x. option_map_or (λ y. slice_index y.known 0) x 0) (get-here v.spaces k within old new read h.name) in
        omega arith

    stage-placed : (st : Stage) → AtPlace v.fanout v.size v.spaces st → AtPlace v.fanout v.size (set v.spaces k new) (landed_stage k number st)
    stage-placed (stage.Joined place work) p = (subst (λ n. k < n) (sym (length-set v.spaces k new)) within, known-here)
    stage-placed (stage.Rising from to asks) p = placed-then v.spaces k within old new read h.name v.fanout v.size (stage.Rising from to asks) rises p
    stage-placed (stage.Arrived asks) p = p
    stage-placed (stage.Landed place n work) p = placed-then v.spaces k within old new read h.name v.fanout v.size (stage.Landed place n work) rises p
    stage-placed (stage.Falling from to given) p = p
    stage-placed (stage.Ended given) p = tt
    stage-placed (stage.Returning from to place asked) p = placed-then v.spaces k within old new read h.name v.fanout v.size (stage.Returning from to place asked) rises p
    stage-placed (stage.Parked place asked) p = placed-then v.spaces k within old new read h.name v.fanout v.size (stage.Parked place asked) rises p
    stage-placed (stage.Held n given) p = tt

    row-placed : (row : Row) → IsPlaced v.fanout v.size v.spaces row → IsPlaced v.fanout v.size (set v.spaces k new) (settled k number groups row)
    row-placed row p = by (list_any (is_authored row.by) groups)
      where
        by : (t : Bool) → IsPlaced v.fanout v.size (set v.spaces k new) (if t then with_stage (landed_stage k number row.stage) row else row)
        by true = record { home = p.home; place = stage-placed row.stage p.place }
        by false = record { home = p.home; place = placed-then v.spaces k within old new read h.name v.fanout v.size row.stage rises p.place }

    pub landing-sound : IsSoundSpace v.fanout v.grant new → (spent : Bool) → IsSound (record { spent = spent; size = v.size; fanout = v.fanout; grant = v.grant; spaces = set v.spaces k new; rows = items })
    landing-sound sound spent =
        respaced-sound s k within old new read h.name (kept-room s k within old new read h.name h.removed) (ap length h.known ∙ length-set old.known 0 (number + 1) ∙ long-old s k within old read ready) sound items
        (λ j d l. let lj = subst (λ n. j < n) all.same_len l in subst (IsPlaced v.fanout v.size (set v.spaces k new)) (sym (all.each j d lj)) (row-placed (get_or v.rows j d) (s.placed j d lj))) spent

-- a transaction is denied
module _ {v : KeysValue} (s : IsSound v) (k : ℕ) (within : k < length v.spaces) (old new : SpaceValue) (read : old ≡ get_or v.spaces k old) (group : Group) (refusal : Refusal) (h : IsRefusing group refusal old new) where
  ready₁ : old.merger.ready ≢ []
  ready₁ = some-ready (group ∷ []) new.merger.ready old.merger.ready (λ e. cc) h.queue

  queue₁ : old.merger.ready ≡ (group ∷ []) ++ new.merger.ready
  queue₁ = h.queue

  split₁ : queued old.merger ≡ (group ∷ []) ++ queued new.merger
  split₁ = queue-split old.merger.fences old.merger.ready (group ∷ []) new.merger.ready queue₁ ∙ ap (λ fs. (group ∷ []) ++ queued (record { fences = fs; ready = new.merger.ready })) (sym h.fences)

  single : (by : By) → list_any (is_authored by) (group ∷ []) ≡ is_authored by group
  single by = or-false _

  module _ {set₀ : Setting} {log : Log} (a : Agrees v set₀ log) where
    sa₁ : SpaceAgrees set₀ log v.size old
    sa₁ = here s k within old read ready₁ a

    names-one : (bys : List By) → commands_of (names_of_group bys) ≡ bys
    names-one bys = commands-group bys

    fresh-one : AreFresh set₀ log (commands_of (names_of_group group.authors))
    fresh-one =
        let f : AreFresh set₀ log (waiting (group ∷ [])) = fresh-left log (group ∷ []) (queued new.merger) (subst (λ q. AreFresh set₀ log (waiting q)) split₁ sa₁.fresh) in
        subst (AreFresh set₀ log) (ap commands_of (append-nil (names_of_group group.authors))) f

    users-of : IsWaiting set₀ old.name group → IsUsers set₀ old.name group
    users-of (inl u) = u
    users-of (inr p) = absurd (subst IsUser p.author h.user)

    pub denial-legal : IsLegalDenial set₀ log old.name (names_of_group group.authors) group refusal
    denial-legal = record {
      fresh = fresh-one;
      named = refl;
      users = users-of (subst (Each (IsWaiting set₀ old.name)) h.queue sa₁.kinds).0;
      living = live-here s k within old read ready₁ a;
      now = get_or old.stores 0 [];
      standing = newest-here s k within old read ready₁ a;
      refused = inl h.refused;
      first = λ settled.
          subst (Each (IsUnrivalled set₀ log old.name)) (ap commands_of (append-nil (names_of_group group.authors)))
          (each-left (IsUnrivalled set₀ log old.name) (waiting (group ∷ [])) (waiting (queued new.merger))
          (subst (Each (IsUnrivalled set₀ log old.name)) (waiting-append (group ∷ []) (queued new.merger))
          (subst (λ q. Each (IsUnrivalled set₀ log old.name) (waiting q)) split₁ (waiting-unrivalled a settled k within old read))));
    }

    aside₁ : (by : By) → list_any (is_authored by) (group ∷ []) ≡ false → IsAside by (Happened (event.Denied old.name (names_of_group group.authors) group refusal))
    aside₁ by e = aside-denied by old.name group refusal (sym (single by) ∙ e)

    nowhere : (other : Name) → IsElsewhere other (Happened (event.Denied old.name (names_of_group group.authors) group refusal))
    nowhere other = record { groups = refl; number = refl; removed = refl; silent = λ b. refl }

    denied-head : IsHead v.size v.fanout v.grant (set v.spaces k new) set₀ (log ++ Happened (event.Denied old.name (names_of_group group.authors) group refusal) ∷ [])
    denied-head = head-then (head-of a) (set v.spaces k new) (Happened (event.Denied old.name (names_of_group group.authors) group refusal)) (λ space. tt) (names-same v.spaces k within old new read h.name) refl
        (set-all (SpaceAgrees set₀ (log ++ Happened (event.Denied old.name (names_of_group group.authors) group refusal) ∷ []) v.size) v.spaces k new
        (alike (space-denied sa₁ group new.merger.ready (Happened (event.Denied old.name (names_of_group group.authors) group refusal)) (nowhere old.name) h.queue
        (each-map (λ by. list_any (is_authored by) (group ∷ []) ≡ false) (λ by. IsAside by (Happened (event.Denied old.name (names_of_group group.authors) group refusal))) (waiting (queued (record { fences = old.merger.fences; ready = new.merger.ready })))
        (behind-unauthored (group ∷ []) (queued (record { fences = old.merger.fences; ready = new.merger.ready })) (subst (λ q. AreDistinct (waiting q)) (queue-split old.merger.fences old.merger.ready (group ∷ []) new.merger.ready queue₁) sa₁.fresh.differ)) aside₁))
        new h.name h.removed h.history h.known (λ j. record { fences = h.fences j; ready = new.merger.ready }))
        (λ j d l ne. space-kept ((head-of a).each j d l) (Happened (event.Denied old.name (names_of_group group.authors) group refusal)) (nowhere (get_or v.spaces j d).name)
        (each-map (λ by. list_any (is_authored by) (group ∷ []) ≡ false) (λ by. IsAside by (Happened (event.Denied old.name (names_of_group group.authors) group refusal))) (waiting (queued (get_or v.spaces j d).merger))
        (others-unauthored s k within old read ready₁ a (group ∷ []) (queued new.merger) split₁ j d l ne) aside₁)))
        (λ space e. nowhere space)

    grows₁ : Grows log (Happened (event.Denied old.name (names_of_group group.authors) group refusal))
    grows₁ = grows-silent log _ (λ space. refl) (λ b space. refl)

    names-there₁ : (j : ℕ) → name_at (set v.spaces k new) j ≡ name_at v.spaces j
    names-there₁ j = name-at v.spaces k within old new read h.name j

    carries-denied : (by : By) → list_any (is_authored by) (group ∷ []) ≡ false → (j : ℕ) (d : SpaceValue) → j < length v.spaces → carries (get_or (set v.spaces k new) j d) by ≡ carries (get_or v.spaces j d) by
    carries-denied by e = set-kept (λ x. carries x by) v.spaces k new (λ q. other-stays s k within old read ready₁ a (group ∷ []) (queued new.merger) split₁ by e ∙ ap (λ x. carries x by) (read-at v.spaces k within old new read h.name q))

    denied-stays : (row : Row) → RowAgrees a.entered set₀ log v.spaces row → list_any (is_authored row.by) (group ∷ []) ≡ false → RowAgrees a.entered set₀ (log ++ Happened (event.Denied old.name (names_of_group group.authors) group refusal) ∷ []) (set v.spaces k new) row
    denied-stays row r e =
        row-respaced (set v.spaces k new) (length-set v.spaces k new) names-there₁ row (carries-denied row.by e)
        (row-kept a.entered set₀ log v.spaces (Happened (event.Denied old.name (names_of_group group.authors) group refusal)) row grows₁ (λ other accepted told kept q. cc) (aside₁ row.by e) r)

    denied-none : (row : Row) → RowAgrees a.entered set₀ log v.spaces row → list_any (is_authored row.by) (group ∷ []) ≡ true → (j : ℕ) (d : SpaceValue) → j < length (set v.spaces k new) → false ≡ carries (get_or (set v.spaces k new) j d) row.by
    denied-none row r t j d l = elim (cases_eq j k) [
      | inl e ↦
          let q : get_or (set v.spaces k new) j d ≡ new = ap (λ i. get_or (set v.spaces k new) i d) e ∙ get_or-set_same v.spaces k new d within in
          sym (ap (λ x. carries x row.by) q ∙ author-gone s k within old read ready₁ a (group ∷ []) (queued new.merger) split₁ row.by t)
      | inr ne ↦
          let lj = subst (λ n. j < n) (length-set v.spaces k new) l in
          let off : joined_in j row.stage ≡ false = untrue (joined_in j row.stage) (λ u. ne (joined-once row.stage j k u (author-joined s k within old read ready₁ a (group ∷ []) (queued new.merger) split₁ row r t))) in
          sym off ∙ r.tied j d lj ∙ ap (λ x. carries x row.by) (sym (get_or-set_other v.spaces k j new d ne))
    ]

    -- a command that was refused, once its refusal is on its way
    denied-answer : (row : Row) → RowAgrees a.entered set₀ log v.spaces row → list_any (is_authored row.by) (group ∷ []) ≡ true → IsUndecided log row.by → IsLegalAnswer set₀ (log ++ Happened (event.Denied old.name (names_of_group group.authors) group refusal) ∷ []) row.by None (answer.Refused refusal)
    denied-answer row r t u = record {
      request = r.request;
      made = r.made;
      waits = record { asked = any-kept (asks_now row.by) log _ refl ∙ r.asked; unanswered = any-kept (answers_now row.by) log _ refl ∙ r.unanswered };
      tells = any-kept (lands_now row.by) log _ refl ∙ u.unlanded;
      grounds = (refl, record { space = old.name; authors = names_of_group group.authors; group = group; denial = last-stands log _; named = named-in row.by (names_of_group group.authors) (named-group row.by group.authors ∙ sym (single row.by) ∙ t) });
    }

    undecided-there : (row : Row) → RowAgrees a.entered set₀ log v.spaces row → joined_in k row.stage ≡ true → IsUndecided log row.by
    undecided-there row r j = by row.stage refl
      where
        by : (st : Stage) → row.stage ≡ st → IsUndecided log row.by
        by (stage.Joined place work) e = (subst (StageAgrees a.entered set₀ log v.spaces row.by r.request) e r.staged).0
        by (stage.Rising from to asks) e = absurd (true≢false (sym j ∙ ap (joined_in k) e))
        by (stage.Arrived asks) e = absurd (true≢false (sym j ∙ ap (joined_in k) e))
        by (stage.Landed place n work) e = absurd (true≢false (sym j ∙ ap (joined_in k) e))
        by (stage.Falling from to given) e = absurd (true≢false (sym j ∙ ap (joined_in k) e))
        by (stage.Ended given) e = absurd (true≢false (sym j ∙ ap (joined_in k) e))
        by (stage.Returning from to place asked) e = absurd (true≢false (sym j ∙ ap (joined_in k) e))
        by (stage.Parked place asked) e = absurd (true≢false (sym j ∙ ap (joined_in k) e))
        by (stage.Held n given) e = absurd (true≢false (sym j ∙ ap (joined_in k) e))

    falling-agrees : (row : Row) (st : Stage) → RowAgrees a.entered set₀ log v.spaces row → list_any (is_authored row.by) (group ∷ []) ≡ true → IsFalling v.fanout 0 row.broker (answer.Refused refusal) st → RowAgrees a.entered set₀ (log ++ Happened (event.Denied old.name (names_of_group group.authors) group refusal) ∷ []) (set v.spaces k new) (with_stage st row)
    falling-agrees row st r t f =
        let legal = denied-answer row r t (undecided-there row r (author-joined s k within old read ready₁ a (group ∷ []) (queued new.merger) split₁ row r t)) in
        record {
          asked = any-kept (asks_now row.by) log _ refl ∙ r.asked;
          unanswered = any-kept (answers_now row.by) log _ refl ∙ r.unanswered;
          request = r.request;
          made = r.made;
          home = r.home;
          inside = r.inside;
          keys = r.keys;
          needed = need-kept log _ row.by r.request row.need grows₁ refl r.asked r.needed;
          staged = falls row.by r.request st f legal;
          tied = λ j d l. unjoined st f j ∙ denied-none row r t j d l;
        }
      where
        falls : (by : By) (request : Request) (x : Stage) → IsFalling v.fanout 0 row.broker (answer.Refused refusal) x → IsLegalAnswer set₀ (log ++ Happened (event.Denied old.name (names_of_group group.authors) group refusal) ∷ []) by None (answer.Refused refusal) → StageAgrees a.entered set₀ (log ++ Happened (event.Denied old.name (names_of_group group.authors) group refusal) ∷ []) (set v.spaces k new) by request x
        falls by request (stage.Falling from to held) q legal = subst (MayTell a.entered set₀ (log ++ Happened (event.Denied old.name (names_of_group group.authors) group refusal) ∷ []) by None) (sym q.0) (legal, tt, tt)
        falls by request (stage.Ended held) q legal = subst (MayTell a.entered set₀ (log ++ Happened (event.Denied old.name (names_of_group group.authors) group refusal) ∷ []) by None) (sym q.0) (legal, tt, tt)
        falls by request (stage.Joined place work) q legal = absurd q
        falls by request (stage.Rising from to asks) q legal = absurd q
        falls by request (stage.Arrived asks) q legal = absurd q
        falls by request (stage.Landed place n work) q legal = absurd q
        falls by request (stage.Returning from to place asked) q legal = absurd q
        falls by request (stage.Parked place asked) q legal = absurd q
        falls by request (stage.Held n given) q legal = absurd q

        unjoined : (x : Stage) → IsFalling v.fanout 0 row.broker (answer.Refused refusal) x → (j : ℕ) → joined_in j x ≡ false
        unjoined (stage.Falling from to held) q j = refl
        unjoined (stage.Ended held) q j = refl
        unjoined (stage.Joined place work) q j = absurd q
        unjoined (stage.Rising from to asks) q j = refl
        unjoined (stage.Arrived asks) q j = refl
        unjoined (stage.Landed place n work) q j = refl
        unjoined (stage.Returning from to place asked) q j = refl
        unjoined (stage.Parked place asked) q j = refl
        unjoined (stage.Held n given) q j = refl

    module _ (items : List Row) (all : AreRefused v.fanout group.authors refusal v.rows items) where
      refused-row : (row now : Row) → RowAgrees a.entered set₀ log v.spaces row → IsRefusedRow v.fanout group.authors refusal row now → RowAgrees a.entered set₀ (log ++ Happened (event.Denied old.name (names_of_group group.authors) group refusal) ∷ []) (set v.spaces k new) now
      refused-row row now r f = by (list_any (same_command row.by) group.authors) refl
        where
          by : (t : Bool) → list_any (same_command row.by) group.authors ≡ t → RowAgrees a.entered set₀ (log ++ Happened (event.Denied old.name (names_of_group group.authors) group refusal) ∷ []) (set v.spaces k new) now
          by true e = let x = f.told e in subst (RowAgrees a.entered set₀ (log ++ Happened (event.Denied old.name (names_of_group group.authors) group refusal) ∷ []) (set v.spaces k new)) (sym x.1) (falling-agrees row x.0 r (single row.by ∙ e) x.2)
          by false e = subst (RowAgrees a.entered set₀ (log ++ Happened (event.Denied old.name (names_of_group group.authors) group refusal) ∷ []) (set v.spaces k new)) (sym (f.others e)) (denied-stays row r (single row.by ∙ e))

      denied-rows : RowsAgree a.entered set₀ (log ++ Happened (event.Denied old.name (names_of_group group.authors) group refusal) ∷ []) (set v.spaces k new) items
      denied-rows = rows-ruled (rows-of a) (set v.spaces k new) items (Happened (event.Denied old.name (names_of_group group.authors) group refusal)) all.same_len
          (λ j d l. same-by₁ (get_or v.rows j d) (get_or items j d) (all.each j d l)) (λ by. refl)
          (λ by some e. aside₁ by (untrue (list_any (is_authored by) (group ∷ [])) (λ t. true≢false (sym (asking₁ by t some) ∙ e))))
          (λ j d l. refused-row (get_or v.rows j d) (get_or items j d) (a.rows j d l) (all.each j d l))
        where
          same-by₁ : (row now : Row) → IsRefusedRow v.fanout group.authors refusal row now → now.by ≡ row.by
          same-by₁ row now f = by (list_any (same_command row.by) group.authors) refl
            where
              by : (t : Bool) → list_any (same_command row.by) group.authors ≡ t → now.by ≡ row.by
              by true e = ap (λ x. x.by) (f.told e).1
              by false e = ap (λ x. x.by) (f.others e)

          asking₁ : (by : By) → list_any (is_authored by) (group ∷ []) ≡ true → IsSome (set₀.asks by) → is_asked by log ≡ true
          asking₁ by t = (authored-is (IsFreshCommand set₀ log) by (group ∷ []) t (fresh-left log (group ∷ []) (queued new.merger) (subst (λ q. AreFresh set₀ log (waiting q)) split₁ sa₁.fresh)).fresh).asked

      pub denial-agrees : Agrees (record { spent = false; size = v.size; fanout = v.fanout; grant = v.grant; spaces = set v.spaces k new; rows = items }) set₀ (log ++ map Happened (denial old.name group refusal))
      denial-agrees = agrees-of {v = record { spent = false; size = v.size; fanout = v.fanout; grant = v.grant; spaces = set v.spaces k new; rows = items }} denied-head denied-rows
          (λ settled. turns-moved (turns-happened (a.turns settled) (event.Denied old.name (names_of_group group.authors) group refusal)) (set v.spaces k new) items (fence-stays v.spaces k within old new read h.name h.fences) (refused-from v.fanout group.authors refusal v.rows items all))

    pub denial-is-legal : IsLegalAfter set₀ log (map Happened (denial old.name group refusal))
    denial-is-legal = (denial-legal, tt)

  -- the service of keys after it
  module _ (items : List Row) (all : AreRefused v.fanout group.authors refusal v.rows items) where
    same₁ : slice_index old.known 0 ≤ slice_index new.known 0
    same₁ = let e : slice_index new.known 0 ≡ slice_index old.known 0 = ap (λ n. slice_index n 0) h.known in omega arith

    falling-placed : (home : ℕ) (st : Stage) → home < v.size → IsFalling v.fanout 0 home (answer.Refused refusal) st → AtPlace v.fanout v.size (set v.spaces k new) st
    falling-placed home (stage.Falling from to held) l q = let b = q.4 in (q.2, q.3, omega arith)
    falling-placed home (stage.Ended held) l q = tt
    falling-placed home (stage.Joined place work) l q = absurd q
    falling-placed home (stage.Rising from to asks) l q = absurd q
    falling-placed home (stage.Arrived asks) l q = absurd q
    falling-placed home (stage.Landed place n work) l q = absurd q
    falling-placed home (stage.Returning from to place asked) l q = absurd q
    falling-placed home (stage.Parked place asked) l q = absurd q
    falling-placed home (stage.Held n given) l q = absurd q

    refused-placed : (row now : Row) → IsPlaced v.fanout v.size v.spaces row → IsRefusedRow v.fanout group.authors refusal row now → IsPlaced v.fanout v.size (set v.spaces k new) now
    refused-placed row now p f = by (list_any (same_command row.by) group.authors) refl
      where
        by : (t : Bool) → list_any (same_command row.by) group.authors ≡ t → IsPlaced v.fanout v.size (set v.spaces k new) now
        by true e = let x = f.told e in subst (IsPlaced v.fanout v.size (set v.spaces k new)) (sym x.1) (record { home = p.home; place = falling-placed row.broker x.0 p.home x.2 })
        by false e = subst (IsPlaced v.fanout v.size (set v.spaces k new)) (sym (f.others e)) (record { home = p.home; place = placed-then v.spaces k within old new read h.name v.fanout v.size row.stage same₁ p.place })

    pub denial-sound : IsSoundSpace v.fanout v.grant new → (spent : Bool) → IsSound (record { spent = spent; size = v.size; fanout = v.fanout; grant = v.grant; spaces = set v.spaces k new; rows = items })
    denial-sound sound spent =
        respaced-sound s k within old new read h.name (kept-room s k within old new read h.name h.removed) (ap length h.known ∙ long-old s k within old read ready₁) sound items
        (λ j d l. let lj = subst (λ n. j < n) all.same_len l in refused-placed (get_or v.rows j d) (get_or items j d) (s.placed j d lj) (all.each j d lj)) spent

-- what is ready where a landing can be made
pub landing-there : (xs : List SpaceValue) (n : ℕ) → option_map_or is_ready (slice_get xs n) false ≡ true → (n < length xs) × ((d : SpaceValue) → is_ready (get_or xs n d) ≡ true)
landing-there xs n e = elim ((slice_get_cases xs n).1) [
  | inl h ↦ (h.1, λ d. ap is_ready (get_or_default xs n d h.0 h.1 ∙ h.3) ∙ ap (λ o. option_map_or is_ready o false) (sym h.2) ∙ e)
  | inr h ↦ absurd (true≢false (sym e ∙ ap (λ o. option_map_or is_ready o false) h.1))
]

numbered : {size fanout : ℕ} {grant : List ℕ} {spaces : List SpaceValue} {service : Setting} {log : Log} (head : IsHead size fanout grant spaces service log) (k : ℕ) (d : SpaceValue) → k < length spaces → IsNumbered log k (get_or spaces k d).name
numbered {spaces = spaces} {log = log} head k d l = slice_get-get_or (primary ∷ opened_names log) k [] (let n = count-of head in omega arith) ∙ ap Some (name-of head k d l)

pub landing-made : {v : KeysValue} {set₀ : Setting} {log : Log} → Agrees v set₀ log → (k : ℕ) (old : SpaceValue) → k < length v.spaces → old ≡ get_or v.spaces k old → (number : ℕ) (groups : List Group) (events : List KvsEvent) → events ≡ landing old.name number groups → AreMadeBy log (kvs.Land k) events
landing-made {log = log} a k old l read number groups events is = subst (AreMadeBy log (kvs.Land k)) (sym is) (old.name, numbered (head-of a) k old l ∙ ap (λ x. Some x.name) (sym read), (inl refl, (inr refl, tt)))

pub denial-made : {v : KeysValue} {set₀ : Setting} {log : Log} → Agrees v set₀ log → (k : ℕ) (old : SpaceValue) → k < length v.spaces → old ≡ get_or v.spaces k old → (group : Group) (refusal : Refusal) (events : List KvsEvent) → events ≡ denial old.name group refusal → AreMadeBy log (kvs.Land k) events
denial-made {log = log} a k old l read group refusal events is = subst (AreMadeBy log (kvs.Land k)) (sym is) (old.name, numbered (head-of a) k old l ∙ ap (λ x. Some x.name) (sym read), (inl refl, tt))

-- `primary` is never removed
pub primary-live : (s : SpaceValue) → IsLiveOrGone s → is_primary s.name ≡ true → s.removed ≡ false
primary-live s (inl live) is = live
primary-live s (inr gone) is = absurd (true≢false (sym is ∙ gone.0))

-- the newest store of `primary` is rank 0's
pub primary-there : (xs : List SpaceValue) → name_at xs 0 ≡ Some primary → 0 < length xs
primary-there [] e = cc
primary-there (x ∷ xs) e = omega arith

pub first-live : {v : KeysValue} → IsSound v → (space : SpaceValue) → space ≡ get_or v.spaces 0 space → space.removed ≡ false
first-live {v} s space read =
    let within = primary-there v.spaces s.first in
    let sound : IsSoundSpace v.fanout v.grant space = subst (IsSoundSpace v.fanout v.grant) (sym read) (s.spaces 0 space within) in
    let named : Some space.name ≡ Some primary = ap (λ x. Some x.name) read ∙ sym (ap (option_map (λ x. x.name)) (slice_get-get_or v.spaces 0 space within)) ∙ s.first in
    let name : space.name ≡ primary = cc in
    primary-live space sound.living (ap is_primary name)

pub newest-primary : {v : KeysValue} {set₀ : Setting} {log : Log} → IsSound v → Agrees v set₀ log → (space : SpaceValue) → space ≡ get_or v.spaces 0 space → (st : Store) → st ≡ get_or space.stores 0 [] → newest_store set₀ log primary ≡ Some st
newest-primary {v} {set₀} {log} s a space read st is =
    let within = primary-there v.spaces s.first in
    let sound : IsSoundSpace v.fanout v.grant space = subst (IsSoundSpace v.fanout v.grant) (sym read) (s.spaces 0 space within) in
    let there : SpaceAgrees set₀ log v.size space = subst (SpaceAgrees set₀ log v.size) (sym read) (a.spaces 0 space within) in
    let named : Some space.name ≡ Some primary = ap (λ x. Some x.name) read ∙ sym (ap (option_map (λ x. x.name)) (slice_get-get_or v.spaces 0 space within)) ∙ s.first in
    let name : space.name ≡ primary = cc in
    let c : ◌≡◌ {A = ℕ} (cond space.removed 1 0) 0 = ap (λ b. cond b 1 0) (first-live s space read) in
    let l = there.last in
    let n = sound.newest in
    let count : landed log space.name ≡ seen (slice_index space.known 0) (length space.history) = omega arith in
    ap (newest_store set₀ log) (sym name)
    ∙ fresh_store set₀ v.grant log space.name (landed log space.name) a.base
    ∙ given-store (is_opened log space.name) _ (ap (λ x. is_opened log x.name) read ∙ opened-there (head-of a) 0 space within)
    ∙ ap (λ ls. after (scope_of space.name) ls (landed log space.name) (begun v.grant space.name)) there.history
    ∙ ap (λ n. after (scope_of space.name) space.history n (begun v.grant space.name)) count
    ∙ sound.replicas.each 0 sound.some ∙ ap Some (sym is)
