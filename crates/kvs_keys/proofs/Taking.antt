-- Rank 0 takes up a request that has come to it.
use Rattle.std.proofs.Common.{◌≡◌, ◌≢◌, ℕ, ◌<◌, ◌≤◌, inl, inr, List, [], ◌∷◌, length, map, Bool, true, false, ◌&&◌, ◌||◌, ◌==◌, ◌+◌, not, option_map, Some, None, refl, sym, ap, ◌∙◌, subst, arith, get_or, set, bytes_eq, append-nil, true≢false}
use Rattle.std.specs.Prelude.{IsTrue, slice_index}
use Rattle.std.specs.List.{list_any, position, AllByRecursion as Each}
use Rattle.std.specs.Option.{is_some}
use Rattle.std.proofs.Math.Bool.{or-false}
use Rattle.std.proofs.lemmas.Bool.{cases_eq}
use Rattle.std.proofs.lemmas.Bool.Decides.{nat_tests}
use Rattle.std.proofs.lemmas.List.{length-set, get_or-set_same, get_or-set_other, get_or_default}
use Rattle.std.proofs.lemmas.List.Elements.{All-set}
use Rattle.std.proofs.lemmas.List.Sums.{sum_by-set}
use Rattle.kvs_txn.specs.declared.txn.By.{By}
use Rattle.kvs_txn.specs.declared.txn.Txn.{Txn}
use Rattle.fence_merge.specs.Fences.{AreFences, fence_of}
use Rattle.fence_merge.specs.Merging.{MergerValue}
use Rattle.kvs_rules.specs.declared.events.KvsAsk.{KvsAsk}
use Rattle.kvs_rules.specs.declared.events.KvsAsk.TheVariants as ask
use Rattle.kvs_rules.specs.declared.events.KvsAnswer.{KvsAnswer}
use Rattle.kvs_rules.specs.declared.events.KvsAnswer.TheVariants as answer
use Rattle.kvs_rules.specs.Log.{IsPending, Log, SinceAsked, same_command}
use Rattle.kvs_rules.specs.Namespaces.{Setting, Request, Asks, is_opened, is_live, is_removed, most_live}
use Rattle.kvs_rules.specs.Brokers.{heard}
use Rattle.kvs_model.specs.Store.{Name}
use Rattle.kvs_rules.specs.Landings.{AreFresh, IsFreshCommand, IsUnrivalled, IsUser}
use Rattle.kvs_rules.specs.Answers.{FindsNoNamespace, IsUnknown}
use Rattle.kvs_requests.specs.declared.rows.Row.{Row}
use Rattle.kvs_requests.specs.declared.rows.Stage.{Stage}
use Rattle.kvs_requests.specs.declared.rows.Stage.TheVariants as stage
use Rattle.kvs_requests.specs.declared.rows.Work.{Work}
use Rattle.kvs_requests.specs.declared.rows.Kind.TheVariants as kind
use Rattle.kvs_requests.specs.Refused.{IsFalling}
use Rattle.kvs_requests.specs.Rows.{AtPlace, IsPlaced, ArePlaced, IsRisingAsk, with_stage}
use Rattle.kvs_space.specs.Sound.{ArePosted, IsSoundSpace}
use Rattle.kvs_keys.specs.Sound.{IsSound}
use Rattle.kvs_space.specs.Space.{SpaceValue, name_at, carries, queued, live_in, members_in, is_named}
use Rattle.kvs_requests.specs.Stages.{joined_in, services_left, all_services, is_arrived_stage, is_entering, kept_count, kind_of, other_than}
use Rattle.kvs_keys.specs.Value.{KeysValue}
use Rattle.kvs_keys.specs.Agrees.{Agrees, AreJoining, IsWaiting, SpaceAgrees}
use Rattle.kvs_requests.specs.Agreement.{Entrants, IsTransaction, IsWorkOf, MayTell, RowAgrees, RowsAgree, StageAgrees, IsUndecided}
use Rattle.kvs_keys.proofs.Carried.{plain-asks, space-plain, IsAwaited, waiting, authored-is, awaited, bringer, each-map, all-joined, other-commands}
use Rattle.kvs_keys.proofs.Counting.{times, one_if, carried-more, fresh-more, uncarried-times}
use Rattle.kvs_keys.proofs.Joining.{HasRival, has-rival, carried-member, unanswered-not}
use Rattle.kvs_space.proofs.Finding.{eq-true, none-passes}
use Rattle.kvs_space.proofs.Finding.{set-all, set-kept}
use Rattle.kvs_keys.specs.Turns.{is_coming_stage}
use Rattle.kvs_keys.proofs.Turns.{arrived-comes, comes-last, turns-entered}
use Rattle.kvs_keys.proofs.Heads.{IsHead, head-of, rows-of, agrees-of}
use Rattle.kvs_requests.proofs.Later.{differs}
use Rattle.kvs_keys.proofs.Living.{live-count}
use Rattle.kvs_keys.proofs.Moving.{found-there, found-name, found-at, moved-sound}
use Rattle.kvs_keys.proofs.Queueing.{posts-moved, waiting-posts}
use Rattle.store_laws.specs.Posts.{posts_in}
use Rattle.kvs_keys.proofs.Respacing.{read-at, names-same, name-at, rows-placed, kept-room, respaced-sound}
use Rattle.kvs_requests.proofs.Tables.{same-self, beside, rows-moved, rows-moved-in, row-entered}

-- a request that has come to rank 0 is served twice more at most, and waits in no namespace
pub arrived-left : (st : Stage) → is_arrived_stage st ≡ true → services_left st ≡ 2
arrived-left (stage.Arrived asks) e = refl
arrived-left (stage.Joined place x) e = absurd (true≢false (sym e))
arrived-left (stage.Rising from to asks) e = absurd (true≢false (sym e))
arrived-left (stage.Falling from to held) e = absurd (true≢false (sym e))
arrived-left (stage.Ended held) e = absurd (true≢false (sym e))
arrived-left (stage.Landed place n x) e = absurd (true≢false (sym e))
arrived-left (stage.Returning from to place asked) e = absurd (true≢false (sym e))
arrived-left (stage.Parked place asked) e = absurd (true≢false (sym e))
arrived-left (stage.Held n given) e = absurd (true≢false (sym e))

pub arrived-unjoined : (st : Stage) → is_arrived_stage st ≡ true → (j : ℕ) → joined_in j st ≡ false
arrived-unjoined (stage.Arrived asks) e j = refl
arrived-unjoined (stage.Joined place x) e j = absurd (true≢false (sym e))
arrived-unjoined (stage.Rising from to asks) e j = refl
arrived-unjoined (stage.Falling from to held) e j = refl
arrived-unjoined (stage.Ended held) e j = refl
arrived-unjoined (stage.Landed place n x) e j = refl
arrived-unjoined (stage.Returning from to place asked) e j = refl
arrived-unjoined (stage.Parked place asked) e j = refl
arrived-unjoined (stage.Held n given) e j = refl

module _ {v : KeysValue} (s : IsSound v) (i : ℕ) (within : i < length v.rows) (row : Row) (read : row ≡ get_or v.rows i row) where
  pub by-there : (d : Row) → row.by ≡ (get_or v.rows i d).by
  by-there d = ap (λ r. r.by) read ∙ ap (λ r. r.by) (get_or_default v.rows i row d within)

  pub placed-there : IsPlaced v.fanout v.size v.spaces row
  placed-there = subst (IsPlaced v.fanout v.size v.spaces) (sym read) (s.placed i row within)

  pub row-agrees : {set₀ : Setting} {log : Log} (a : Agrees v set₀ log) → RowAgrees a.entered set₀ log v.spaces row
  row-agrees {set₀} {log} a = subst (RowAgrees a.entered set₀ log v.spaces) (sym read) (a.rows i row within)

  pub fewer : (st : Stage) (rows : List Row) → rows ≡ set v.rows i (with_stage st row) → services_left st < services_left row.stage → all_services rows < all_services v.rows
  fewer st rows is less =
      let n = sum_by-set (λ x. services_left x.stage) v.rows i (with_stage st row) row within in
      let o : services_left (get_or v.rows i row).stage ≡ services_left row.stage = ap (λ x. services_left x.stage) (sym read) in
      let e = ap all_services is in
      omega arith

  -- it joins the namespace of its name
  module _ (k : ℕ) (found : Some k ≡ position (is_named row.namespace) v.spaces) (w : Work) (arrived : is_arrived_stage row.stage ≡ true) (old new : SpaceValue) (read-space : old ≡ get_or v.spaces k old) (merger₁ : MergerValue)
      (now : new ≡ record { name = old.name; removed = old.removed; history = old.history; known = old.known; stores = old.stores; links = old.links; merger = merger₁ })
      (more : (x : By) → times x (waiting (queued merger₁)) ≡ times x (waiting (queued old.merger)) + one_if x row.by)
      (fences : AreFences merger₁.fences) (members : Each (λ m. IsUser m.txn.author) (members_in merger₁.fences)) (posts : posts_in merger₁.ready ≡ posts_in old.merger.ready) (taken : ArePosted old.name merger₁.ready (get_or old.stores 0 [])) (live : old.removed ≡ false) (lands : IsTransaction w) where
    inside : k < length v.spaces
    inside = found-there s row.namespace k found

    name-same : new.name ≡ old.name
    name-same = ap (λ x. x.name) now

    carried-now : (by : By) → carries new by ≡ (carries old by || same_command by row.by)
    carried-now by = ap (λ x. carries x by) now ∙ carried-more (queued old.merger) (queued merger₁) row.by by (more by)

    sound-old : IsSoundSpace v.fanout v.grant old
    sound-old = subst (IsSoundSpace v.fanout v.grant) (sym read-space) (s.spaces k old inside)

    sound-new : IsSoundSpace v.fanout v.grant new
    sound-new = subst (IsSoundSpace v.fanout v.grant) (sym now) (record { some = sound-old.some; announced = sound-old.announced; newest = sound-old.newest; replicas = sound-old.replicas; living = inl live; fences = fences; members = members; posts = taken })

    same-known : slice_index old.known 0 ≤ slice_index new.known 0
    same-known = let e : slice_index new.known 0 ≡ slice_index old.known 0 = ap (λ x. slice_index x.known 0) now in omega arith

    pub joined-sound : (rows : List Row) → rows ≡ set v.rows i (with_stage (stage.Joined k w) row) → (spent : Bool) → IsSound (record { spent = spent; size = v.size; fanout = v.fanout; grant = v.grant; spaces = set v.spaces k new; rows = rows })
    joined-sound rows rows-are spent =
        let placed : ArePlaced v.fanout v.size (set v.spaces k new) (set v.rows i (with_stage (stage.Joined k w) row)) =
        All-set (IsPlaced v.fanout v.size (set v.spaces k new)) v.rows i (with_stage (stage.Joined k w) row)
        (record { home = placed-there.home; place = subst (λ n. k < n) (sym (length-set v.spaces k new)) inside })
        (rows-placed v.spaces k inside old new read-space name-same same-known v.fanout v.size v.rows s.placed) in
        respaced-sound s k inside old new read-space name-same (kept-room s k inside old new read-space name-same (ap (λ x. x.removed) now)) (ap (λ x. length x.known) now ∙ ap (λ x. length x.known) read-space ∙ s.brokers k old inside) sound-new rows
        (subst (ArePlaced v.fanout v.size (set v.spaces k new)) (sym rows-are) placed) spent

    pub joined-order : waiting-posts (set v.spaces k new) ≡ waiting-posts v.spaces
    joined-order = posts-moved v.spaces old new name-same [] k inside read-space (ap (λ x. posts_in x.merger.ready) now ∙ posts) (λ _. refl)

    pub joined-fewer : (rows : List Row) → rows ≡ set v.rows i (with_stage (stage.Joined k w) row) → all_services rows < all_services v.rows
    joined-fewer rows rows-are = fewer (stage.Joined k w) rows rows-are (let e : services_left row.stage ≡ 2 = arrived-left row.stage arrived in omega arith)

    module _ {set₀ : Setting} {log : Log} (a : Agrees v set₀ log) (undecided : IsUndecided log row.by) (work-of : IsWorkOf (row-agrees a).request.ask w)
        (kinds : Each (IsWaiting set₀ old.name) merger₁.ready) (joining : Each (AreJoining set₀ old.name) merger₁.fences) (unrivalled : IsTrue set₀.settled → (space : Name) → IsUnrivalled set₀ log space row.by) where
      r : RowAgrees a.entered set₀ log v.spaces row
      r = row-agrees a

      command : IsFreshCommand set₀ log row.by
      command = record { unanswered = r.unanswered; unlanded = undecided.unlanded; undenied = undecided.undenied; asked = λ some. r.asked }

      there : SpaceAgrees set₀ log v.size old
      there = subst (SpaceAgrees set₀ log v.size) (sym read-space) (a.spaces k old inside)

      unjoined : (j : ℕ) → joined_in j row.stage ≡ false
      unjoined j = arrived-unjoined row.stage arrived j

      others-differ : Each (λ b. b ≢ row.by) (waiting (queued old.merger))
      others-differ =
          let all = all-joined (rows-of a) k old inside (subst (λ x. AreFresh set₀ log (waiting (queued x.merger))) read-space there.fresh) (space-plain (a.spaces k old inside)) in
          subst (λ x. Each (λ b. b ≢ row.by) (waiting (queued x.merger))) (sym read-space)
          (each-map _ (λ b. b ≢ row.by) (waiting (queued (get_or v.spaces k old).merger)) all (λ b h. other-commands (rows-of a) i row within read k (unjoined k) b h))

      space-now : SpaceAgrees set₀ log v.size new
      space-now =
          subst (SpaceAgrees set₀ log v.size) (sym now)
          (record {
            history = there.history;
            last = there.last;
            removed = there.removed;
            told = there.told;
            kinds = kinds;
            joining = joining;
            fresh = fresh-more (waiting (queued old.merger)) (waiting (queued merger₁)) row.by there.fresh command (uncarried-times row.by (queued old.merger) others-differ) more;
          })

      joined-head : IsHead v.size v.fanout v.grant (set v.spaces k new) set₀ log
      joined-head =
          let head = head-of a in
          record {
            size_is = head.size_is;
            fanout_is = head.fanout_is;
            base_is = head.base_is;
            links_are = head.links_are;
            owned = head.owned;
            names = names-same v.spaces k inside old new read-space name-same ∙ head.names;
            each = set-all (SpaceAgrees set₀ log v.size) v.spaces k new space-now (λ j d l ne. head.each j d l);
            untold = head.untold;
          }

      -- the command is let wait
      abbrev entered₁ : Entrants
      entered₁ b = a.entered b || same_command b row.by

      names-there : (j : ℕ) → name_at (set v.spaces k new) j ≡ name_at v.spaces j
      names-there j = name-at v.spaces k inside old new read-space name-same j

      or-left-true : (b c : Bool) → c ≡ true → (b || c) ≡ true
      or-left-true true c e = refl
      or-left-true false c e = e

      or-right-true : (b c : Bool) → b ≡ true → (b || c) ≡ true
      or-right-true true c e = refl
      or-right-true false c e = cc

      tied-here : (j : ℕ) (d : SpaceValue) → j < length (set v.spaces k new) → joined_in j (stage.Joined k w) ≡ carries (get_or (set v.spaces k new) j d) row.by
      tied-here j d l = elim (cases_eq j k) [
        | inl e ↦
            let q : get_or (set v.spaces k new) j d ≡ new = ap (λ n. get_or (set v.spaces k new) n d) e ∙ get_or-set_same v.spaces k new d inside in
            eq-true k j (sym e) ∙ sym (ap (λ x. carries x row.by) q ∙ carried-now row.by ∙ or-left-true (carries old row.by) (same_command row.by row.by) (same-self row.by))
        | inr ne ↦
            let lj = subst (λ n. j < n) (length-set v.spaces k new) l in
            let off : (k == j) ≡ false = grind (arith, nat_tests) in
            off ∙ sym (unjoined j) ∙ r.tied j d lj ∙ ap (λ x. carries x row.by) (sym (get_or-set_other v.spaces k j new d ne))
      ]

      joined-row : RowAgrees entered₁ set₀ log (set v.spaces k new) (with_stage (stage.Joined k w) row)
      unfolding r
      joined-row = record {
        asked = r.asked;
        unanswered = r.unanswered;
        request = r.request;
        made = r.made;
        home = r.home;
        inside = r.inside;
        keys = r.keys;
        needed = r.needed;
        staged = (undecided, work-of, names-there k ∙ found-at s row.namespace k found old ∙ ap Some (sym r.inside), lands, or-left-true (a.entered row.by) (same_command row.by row.by) (same-self row.by));
        tied = tied-here;
      }

      other-row : (j : ℕ) (d : Row) → j < length v.rows → j ≢ i → RowAgrees entered₁ set₀ log (set v.spaces k new) (get_or v.rows j d)
      other-row j d l ne =
          let differ : same_command (get_or v.rows j d).by row.by ≡ false = differs (get_or v.rows j d).by row.by (λ e. beside (rows-of a) i j d within l ne (e ∙ by-there d)) in
          row-entered entered₁ (set v.spaces k new) (length-set v.spaces k new) names-there (get_or v.rows j d) (λ other e. or-right-true (a.entered other) _ e, ap (λ b. a.entered (get_or v.rows j d).by || b) differ ∙ or-false _)
          (λ m e lm. set-kept (λ x. carries x (get_or v.rows j d).by) v.spaces k new
          (λ q. carried-now (get_or v.rows j d).by ∙ ap (λ b. carries old (get_or v.rows j d).by || b) differ ∙ or-false _ ∙ ap (λ x. carries x (get_or v.rows j d).by) (read-at v.spaces k inside old new read-space name-same q)) m e lm)
          (a.rows j d l)

      pub joined-agrees : (rows : List Row) → rows ≡ set v.rows i (with_stage (stage.Joined k w) row) → Agrees (record { spent = false; size = v.size; fanout = v.fanout; grant = v.grant; spaces = set v.spaces k new; rows = rows }) set₀ log
      joined-agrees rows rows-are =
          subst (λ rs. Agrees (record { spent = false; size = v.size; fanout = v.fanout; grant = v.grant; spaces = set v.spaces k new; rows = rs }) set₀ log) (sym rows-are)
          (agrees-of {v = record { spent = false; size = v.size; fanout = v.fanout; grant = v.grant; spaces = set v.spaces k new; rows = set v.rows i (with_stage (stage.Joined k w) row) }} joined-head
          (rows-moved-in (rows-of a) i within (with_stage (stage.Joined k w) row) by-there entered₁ (set v.spaces k new) (λ b ne. ap (λ x. a.entered b || x) (differs b row.by ne) ∙ or-false _) joined-row other-row)
          (λ settled. turns-entered (a.turns settled) a.apart i within row read (arrived-comes row.stage arrived) (unrivalled settled) entered₁ (λ b h ne. sym (ap (λ x. a.entered b || x) (differs b row.by ne) ∙ or-false _) ∙ h) (with_stage (stage.Joined k w) row) refl refl (set v.spaces k new)))

  -- what the log says where an ask has come
  pub arrived-staged : {set₀ : Setting} {log : Log} (a : Agrees v set₀ log) (asked : KvsAsk) → row.stage ≡ stage.Arrived asked → IsUndecided log row.by × ((row-agrees a).request.ask ≡ asked) × IsRisingAsk asked × (a.entered row.by ≡ false)
  arrived-staged {set₀} {log} a asked is = subst (StageAgrees a.entered set₀ log v.spaces row.by (row-agrees a).request) is (row-agrees a).staged

  -- its namespace is that of this place
  pub named-so : (k : ℕ) → Some k ≡ position (is_named row.namespace) v.spaces → (old : SpaceValue) → old ≡ get_or v.spaces k old → row.namespace ≡ old.name
  named-so k found old read-space = sym (ap (λ x. x.name) read-space ∙ found-name s row.namespace k found old)

  pub placed-ask : (asked : KvsAsk) → row.stage ≡ stage.Arrived asked → IsRisingAsk asked
  placed-ask asked is = subst (AtPlace v.fanout v.size v.spaces) is placed-there.place

  pub asks-there : {set₀ : Setting} {log : Log} (a : Agrees v set₀ log) (asked : KvsAsk) → row.stage ≡ stage.Arrived asked → (name : Name) → row.namespace ≡ name → Asks set₀ name row.by asked
  asks-there a asked is name named = record { request = (row-agrees a).request; made = (row-agrees a).made; inside = (row-agrees a).inside ∙ named; asked = (arrived-staged a asked is).1 }

  -- it is told an answer
  module _ (given : KvsAnswer) (arrived : is_arrived_stage row.stage ≡ true) (st : Stage) (falls : IsFalling v.fanout 0 row.broker given st) where
    falling-left : (x : Stage) → IsFalling v.fanout 0 row.broker given x → services_left x < 2
    falling-left (stage.Falling from to held) q = omega arith
    falling-left (stage.Ended held) q = omega arith
    falling-left (stage.Joined place w) q = absurd q
    falling-left (stage.Rising from to asks) q = absurd q
    falling-left (stage.Arrived asks) q = absurd q
    falling-left (stage.Landed place n w) q = absurd q
    falling-left (stage.Returning from to place asked) q = absurd q
    falling-left (stage.Parked place asked) q = absurd q
    falling-left (stage.Held n held) q = absurd q

    pub refused-fewer : (rows : List Row) → rows ≡ set v.rows i (with_stage st row) → all_services rows < all_services v.rows
    refused-fewer rows rows-are = fewer st rows rows-are (let e : services_left row.stage ≡ 2 = arrived-left row.stage arrived in let q = falling-left st falls in omega arith)

    pub refused-sound : (rows : List Row) → rows ≡ set v.rows i (with_stage st row) → AtPlace v.fanout v.size v.spaces st → (spent : Bool) → IsSound (record { spent = spent; size = v.size; fanout = v.fanout; grant = v.grant; spaces = v.spaces; rows = rows })
    refused-sound rows rows-are place spent = moved-sound s spent rows (subst (ArePlaced v.fanout v.size v.spaces) (sym rows-are) (All-set (IsPlaced v.fanout v.size v.spaces) v.rows i (with_stage st row) (record { home = placed-there.home; place = place }) s.placed))

    pub refused-agrees : {set₀ : Setting} {log : Log} (a : Agrees v set₀ log) → ((d : Row) → MayTell a.entered set₀ log (get_or v.rows i d).by None given)
        → ((entered : Entrants) (set₁ : Setting) (log₁ : Log) (spaces : List SpaceValue) (by : By) (request : Request) → MayTell entered set₁ log₁ by None given → StageAgrees entered set₁ log₁ spaces by request st)
        → ((j : ℕ) → joined_in j st ≡ false) → (rows : List Row) → rows ≡ set v.rows i (with_stage st row) → RowsAgree a.entered set₀ log v.spaces rows
    refused-agrees {set₀} {log} a fits agrees unjoined rows rows-are =
        let r : RowAgrees a.entered set₀ log v.spaces row = row-agrees a in
        let new : RowAgrees a.entered set₀ log v.spaces (with_stage st row) = record {
          asked = r.asked;
          unanswered = r.unanswered;
          request = r.request;
          made = r.made;
          home = r.home;
          inside = r.inside;
          keys = r.keys;
          needed = r.needed;
          staged = agrees a.entered set₀ log v.spaces row.by r.request (subst (λ b. MayTell a.entered set₀ log b None given) (sym (by-there row)) (fits row));
          tied = λ j d l. unjoined j ∙ sym (arrived-unjoined row.stage arrived j) ∙ r.tied j d l;
        } in
        subst (RowsAgree a.entered set₀ log v.spaces) (sym rows-are) (rows-moved (rows-of a) i within (with_stage st row) by-there new)

  -- there is no such namespace
  module _ (none : None ≡ position (is_named row.namespace) v.spaces) {set₀ : Setting} {log : Log} (a : Agrees v set₀ log) where
    any-map : {X Y : Type 0} (p : Y → Bool) (f : X → Y) (xs : List X) → list_any p (map f xs) ≡ list_any (λ x. p (f x)) xs
    any-map p f [] = refl
    any-map p f (x ∷ xs) = ap (λ b. p (f x) || b) (any-map p f xs)

    not-live : (a b : Bool) → a ≡ false → (a && not b) ≡ false
    not-live a b e = rw e refl

    dead-since : SinceAsked row.by (IsUnknown (row-agrees a).request.broker (row-agrees a).request.namespace) log → SinceAsked row.by (λ past. is_live past (row-agrees a).request.namespace ≡ false) log
    dead-since h = record { past = h.past; later = h.later; split = h.split; asked = h.asked; held = h.held.1 }

    finds-none : (asked : KvsAsk) → IsRisingAsk asked → kind_of (stage.Arrived asked) ≢ kind.Create → SinceAsked row.by (IsUnknown (row-agrees a).request.broker (row-agrees a).request.namespace) log → FindsNoNamespace log row.by (row-agrees a).request asked
    finds-none (ask.Commit txn) h other since = dead-since since
    finds-none (ask.Fence name count txn) h other since = dead-since since
    finds-none ask.Remove h other since = dead-since since
    finds-none (ask.Read query path) h other since = inr since
    finds-none (ask.Wait number) h other since = inr since
    finds-none ask.Create h other since = absurd (other refl)
    finds-none _ h other since = absurd h

    pub unopened : is_opened log row.namespace ≡ false
    unopened = ap (list_any (bytes_eq row.namespace)) (sym a.names) ∙ any-map (bytes_eq row.namespace) (λ x. x.name) v.spaces ∙ none-passes (is_named row.namespace) v.spaces (sym none)

    -- too many namespaces are live for one more
    pub crowded-fits : row.stage ≡ stage.Arrived ask.Create → most_live ≤ live_in v.spaces → MayTell a.entered set₀ log row.by None answer.TooMany
    crowded-fits is full =
        let r : RowAgrees a.entered set₀ log v.spaces row = row-agrees a in
        let staged = arrived-staged a ask.Create is in
        let live = live-count s a in
        let room = s.room in (
          record {
            request = r.request;
            made = r.made;
            waits = record { asked = r.asked; unanswered = r.unanswered };
            tells = (staged.0.unlanded, staged.0.undenied);
            grounds = (refl, staged.1, record { past = log; later = []; split = sym (append-nil log); asked = r.asked; held = (omega arith, ap (is_opened log) r.inside ∙ unopened) });
          },
          tt,
          tt,
        )

    pub unnamed-fits : (asked : KvsAsk) → row.stage ≡ stage.Arrived asked → kind_of row.stage ≢ kind.Create → MayTell a.entered set₀ log row.by None answer.NoNamespace
    unnamed-fits asked is other =
        let r : RowAgrees a.entered set₀ log v.spaces row = row-agrees a in
        let staged = arrived-staged a asked is in
        let dead : is_live log r.request.namespace ≡ false = ap (is_live log) r.inside ∙ not-live (is_opened log row.namespace) (is_removed log row.namespace) unopened in
        let unheard : heard log r.request.broker r.request.namespace ≡ None = ap (heard log r.request.broker) r.inside ∙ (a.untold row.namespace unopened).unheard r.request.broker in
        let since : SinceAsked row.by (IsUnknown r.request.broker r.request.namespace) log = record { past = log; later = []; split = sym (append-nil log); asked = r.asked; held = (unheard, dead) } in (
          record {
            request = r.request;
            made = r.made;
            waits = record { asked = r.asked; unanswered = r.unanswered };
            tells = (staged.0.unlanded, staged.0.undenied);
            grounds = (refl, subst (λ x. FindsNoNamespace log row.by r.request x) (sym staged.1) (finds-none asked staged.2 (λ e. other (ap kind_of is ∙ e)) since));
          },
          tt,
          tt,
        )

  -- an open fence of the name has another count
  module _ (k : ℕ) (found : Some k ≡ position (is_named row.namespace) v.spaces) (old : SpaceValue) (read-space : old ≡ get_or v.spaces k old) (name : List ℕ) (count : ℕ) (txn : Txn) (is : row.stage ≡ stage.Arrived (ask.Fence name count txn))
      (kept : ℕ) (differs-so : Some kept ≡ other_than (option_map (λ f. f.count) (fence_of name old.merger.fences)) count) {set₀ : Setting} {log : Log} (a : Agrees v set₀ log) where
    within-table : k < length v.spaces
    within-table = found-there s row.namespace k found

    space-there : SpaceAgrees set₀ log v.size old
    space-there = subst (SpaceAgrees set₀ log v.size) (sym read-space) (a.spaces k old within-table)

    sound-there : IsSoundSpace v.fanout v.grant old
    sound-there = subst (IsSoundSpace v.fanout v.grant) (sym read-space) (s.spaces k old within-table)

    rival : HasRival set₀ old.name name kept count old.merger.fences
    rival = has-rival set₀ old.name name old.merger.fences count kept sound-there.fences.open_each space-there.joining differs-so

    carried-rival : carries old (bringer rival.member) ≡ true
    carried-rival = carried-member old.merger rival.member rival.inside

    -- its row waits to land
    rival-entered : a.entered (bringer rival.member) ≡ true
    rival-entered = at (awaited (rows-of a) k old within-table (bringer rival.member) (plain-asks set₀ old.name (bringer rival.member) _ rival.asks refl) command (ap (λ x. carries x (bringer rival.member)) (sym read-space) ∙ carried-rival))
      where
        command : IsFreshCommand set₀ log (bringer rival.member)
        command = authored-is (IsFreshCommand set₀ log) (bringer rival.member) (queued old.merger) carried-rival space-there.fresh.fresh

        joined : (r : Row) → (st : Stage) → r.stage ≡ st → joined_in k r.stage ≡ true → RowAgrees a.entered set₀ log v.spaces r → a.entered r.by ≡ true
        joined r (stage.Joined place w) e j h = (subst (StageAgrees a.entered set₀ log v.spaces r.by h.request) e h.staged).4
        joined r (stage.Rising from to asks) e j h = absurd (true≢false (sym j ∙ ap (joined_in k) e))
        joined r (stage.Arrived asks) e j h = absurd (true≢false (sym j ∙ ap (joined_in k) e))
        joined r (stage.Landed place n w) e j h = absurd (true≢false (sym j ∙ ap (joined_in k) e))
        joined r (stage.Falling from to given) e j h = absurd (true≢false (sym j ∙ ap (joined_in k) e))
        joined r (stage.Ended given) e j h = absurd (true≢false (sym j ∙ ap (joined_in k) e))
        joined r (stage.Returning from to place asked) e j h = absurd (true≢false (sym j ∙ ap (joined_in k) e))
        joined r (stage.Parked place asked) e j h = absurd (true≢false (sym j ∙ ap (joined_in k) e))
        joined r (stage.Held n given) e j h = absurd (true≢false (sym j ∙ ap (joined_in k) e))

        at : IsAwaited set₀ v.rows k (bringer rival.member) → a.entered (bringer rival.member) ≡ true
        at (inl none) = absurd (true≢false (sym (ap is_some rival.asks.made) ∙ ap is_some none))
        at (inr h) = ap a.entered (sym (h.is row)) ∙ joined (get_or v.rows h.at row) (get_or v.rows h.at row).stage refl (h.joined row) (a.rows h.at row h.within)

    pub differs-fits : MayTell a.entered set₀ log row.by None (answer.CountDiffers kept)
    differs-fits =
        let r : RowAgrees a.entered set₀ log v.spaces row = row-agrees a in
        let staged = arrived-staged a (ask.Fence name count txn) is in
        let named : r.request.namespace ≡ old.name = r.inside ∙ named-so k found old read-space in
        let command : IsFreshCommand set₀ log (bringer rival.member) = authored-is (IsFreshCommand set₀ log) (bringer rival.member) (queued old.merger) carried-rival space-there.fresh.fresh in
        let asks : Asks set₀ r.request.namespace (bringer rival.member) (ask.Fence name kept rival.member.txn) = subst (λ n. Asks set₀ n (bringer rival.member) (ask.Fence name kept rival.member.txn)) (sym named) rival.asks in
        let pending : IsPending (bringer rival.member) log = record { waits = record { asked = command.asked (ap is_some asks.made); unanswered = command.unanswered }; unlanded = command.unlanded; undenied = command.undenied } in (
          record {
            request = r.request;
            made = r.made;
            waits = record { asked = r.asked; unanswered = r.unanswered };
            tells = (staged.0.unlanded, staged.0.undenied);
            grounds = (
              refl,
              name,
              count,
              txn,
              staged.1,
              record {
                past = log;
                later = [];
                split = sym (append-nil log);
                asked = r.asked;
                held = record {
                  rival = bringer rival.member;
                  txn = rival.member.txn;
                  asked = asks;
                  differs = rival.differs;
                  pending = pending;
                  accepted = λ number other c. unanswered-not log (bringer rival.member) number (answer.CountDiffers other) command.unanswered c;
                  first = λ settled. ((comes-last (a.turns settled) a.apart i within row read (ap is_coming_stage is)).met (bringer rival.member) r.request.namespace name kept (λ e. true≢false (sym rival-entered ∙ ap a.entered e ∙ staged.3)) (pending, (rival.member.txn, asks))).0;
                };
              },
            );
          },
          tt,
          (rival-entered, staged.3),
        )

-- what has come to rank 0 to land there is a commit or a member of a fence
pub enters : (fanout size : ℕ) (spaces : List SpaceValue) (st : Stage) → is_arrived_stage st ≡ true → kind_of st ≡ kind.Land → AtPlace fanout size spaces st → is_entering st ≡ true
enters fanout size spaces (stage.Arrived (ask.Commit txn)) a lands p = refl
enters fanout size spaces (stage.Arrived (ask.Fence name count txn)) a lands p = refl
enters fanout size spaces (stage.Arrived (ask.Read query path)) a lands p = let no : kind.Look ≡ kind.Land = lands in cc
enters fanout size spaces (stage.Arrived ask.Root) a lands p = absurd p
enters fanout size spaces (stage.Arrived (ask.Wait number)) a lands p = let no : kind.Look ≡ kind.Land = lands in cc
enters fanout size spaces (stage.Arrived ask.Create) a lands p = let no : kind.Create ≡ kind.Land = lands in cc
enters fanout size spaces (stage.Arrived ask.Remove) a lands p = let no : kind.Remove ≡ kind.Land = lands in cc
enters fanout size spaces (stage.Arrived (ask.Store bytes)) a lands p = absurd p
enters fanout size spaces (stage.Arrived (ask.Load reference)) a lands p = absurd p
enters fanout size spaces (stage.Arrived ask.Flush) a lands p = absurd p
enters fanout size spaces (stage.Arrived ask.DropClean) a lands p = absurd p
enters fanout size spaces _ a lands p = absurd (true≢false (sym a))

-- what has come to rank 0 is a member of a fence
pub record IsFenceRow (row : Row) : Type 0 where
  pub name : List ℕ
  pub count : ℕ
  pub txn : Txn
  pub is : row.stage ≡ stage.Arrived (ask.Fence name count txn)

-- it is one where an open fence has another count
pub kept-fence : (s : SpaceValue) (row : Row) (kept : ℕ) → Some kept ≡ kept_count s row.stage → IsFenceRow row
kept-fence s row kept h = by row.stage refl h
  where
    of : (asks : KvsAsk) → row.stage ≡ stage.Arrived asks → Some kept ≡ kept_count s (stage.Arrived asks) → IsFenceRow row
    of (ask.Fence name count txn) e f = record { name = name; count = count; txn = txn; is = e }
    of _ e f = let no : Some kept ≡ None = f in cc

    by : (st : Stage) → row.stage ≡ st → Some kept ≡ kept_count s st → IsFenceRow row
    by (stage.Arrived asks) e f = of asks e f
    by _ e f = let no : Some kept ≡ None = f in cc

-- what has come to rank 0
pub record IsAskRow (row : Row) : Type 0 where
  pub asked : KvsAsk
  pub is : row.stage ≡ stage.Arrived asked

pub arrived-ask : (row : Row) → is_arrived_stage row.stage ≡ true → IsAskRow row
arrived-ask row h = by row.stage refl h
  where
    by : (st : Stage) → row.stage ≡ st → is_arrived_stage st ≡ true → IsAskRow row
    by (stage.Arrived asks) e f = record { asked = asks; is = e }
    by _ e f = absurd (true≢false (sym f))
