-- Rank 0 opens a namespace.
use Rattle.std.proofs.Common.{◌≡◌, ◌≢◌, ℕ, suc, ◌+◌, ◌<◌, ◌≤◌, ◌^◌, inl, inr, List, [], ◌∷◌, ◌++◌, length, Bool, true, false, cond, ◌||◌, ◌==◌, not, Some, None, unwrap_or, option_map, Contains, refl, sym, ap, ◌∙◌, subst, arith, get_or, set, bytes_eq, append_assoc, append-nil, length-append, true≢false, ne_eqb}
use Rattle.std.specs.Prelude.{slice_index, slice_get}
use Rattle.std.specs.List.{AllPairs, list_any, position, AllByRecursion as Each}
use Rattle.std.specs.Option.{option_map_or}
use Rattle.std.specs.Cmp.Lexicographic.{bytes_decides}
use Rattle.std.proofs.Math.Bool.{or-false}
use Rattle.std.proofs.lemmas.Bool.{cases_eq, cases_lt}
use Rattle.std.proofs.lemmas.List.{length-set, get_or-set_same, get_or-set_other, get_or_append_left, get_or_push, set-get_or}
use Rattle.std.proofs.lemmas.List.Elements.{All-push, All-set, filter_map-append}
use Rattle.std.proofs.lemmas.List.Folds.{list_any_at}
use Rattle.std.proofs.lemmas.List.Quantifiers.{all_pairs_push}
use Rattle.std.proofs.lemmas.List.Sums.{sum_by-append, sum_by-cons}
use Rattle.std.proofs.lemmas.Option.{slice_get-get_or, slice_get_past}
use Rattle.kvs_txn.specs.declared.txn.By.{By}
use Rattle.kvs_model.specs.Store.{Name}
use Rattle.kvs_rules.specs.declared.events.KvsAsk.TheVariants as ask
use Rattle.kvs_rules.specs.declared.events.KvsEvent.TheVariants as event
use Rattle.kvs_rules.specs.Log.{Log, Moment, Happened, asks_now, answers_now, denies_now, is_asked}
use Rattle.kvs_rules.specs.Namespaces.{Setting, is_opened, is_primary, is_removed, landed, landings, most_live, name_opened, opened_names, primary}
use Rattle.kvs_rules.specs.Brokers.{heard, IsLegalHearing}
use Rattle.kvs_rules.specs.Landings.{AreFresh, IsLegalLanding, commands_of, names_of}
use Rattle.kvs_rules.specs.Answers.{IsLegalAfter}
use Rattle.kvs_rules.proofs.Logs.{landed_push, was_unopened}
use Rattle.kvs_rules.proofs.Stores.{landings_push, opened_push}
use Rattle.kvs_requests.specs.declared.rows.Row.{Row}
use Rattle.kvs_requests.specs.declared.rows.Stage.{Stage}
use Rattle.kvs_requests.specs.declared.rows.Stage.TheVariants as stage
use Rattle.kvs_requests.specs.declared.rows.Work.TheVariants as work
use Rattle.kvs_keys.specs.Agrees.{Agrees, IsUntouched, IsWaiting, AreJoining, SpaceAgrees}
use Rattle.kvs_requests.specs.Agreement.{RowAgrees, RowsAgree}
use Rattle.kvs_requests.specs.Rows.{AtPlace, IsPlaced, with_stage}
use Rattle.kvs_keys.specs.Sound.{IsSound}
use Rattle.kvs_requests.specs.Stages.{all_services, is_arrived_stage, joined_in, services_left}
use Rattle.kvs_keys.specs.Value.{KeysValue}
use Rattle.kvs_space.specs.Sound.{IsSoundSpace, idle}
use Rattle.kvs_space.specs.Space.{SpaceValue, carries, is_authored, is_named, known_at, live_in, name_at, number_of, queued}
use Rattle.kvs_space.proofs.Finding.{found-none, set-all, set-kept}
use Rattle.kvs_keys.proofs.Carried.{space-plain, IsAwaited, all-joined, each-map, map-append, other-commands, waiting}
use Rattle.kvs_keys.proofs.Delivering.{heard-head, heard-legal, heard-rows, named-apart}
use Rattle.kvs_keys.proofs.Turns.{arrived-comes, asks-once, fence-not-create, nobody-set, turns-happened, turns-quiet, unrivalled-else}
use Rattle.kvs_keys.proofs.Heads.{IsElsewhere, IsHead, agrees-of, head-of, owned-then, removed-kept, rows-of, space-kept, untouched-kept}
use Rattle.kvs_keys.proofs.Heard.{no-space}
use Rattle.kvs_keys.proofs.Landing.{any-kept, last-stands, primary-there}
use Rattle.kvs_requests.proofs.Later.{Grows, IsAside, differs, heard-push, need-kept, row-kept, told-silent}
use Rattle.kvs_keys.proofs.Living.{live-count}
use Rattle.kvs_keys.proofs.Queueing.{posts-at, waiting-posts}
use Rattle.kvs_keys.proofs.Respacing.{set-twice}
use Rattle.kvs_requests.proofs.Tables.{beside, rows-ruled, stage-respaced}
use Rattle.kvs_keys.proofs.Taking.{arrived-left, arrived-staged, arrived-unjoined, by-there, fewer, row-agrees, unopened}

-- the table with one namespace more, in which nothing waits
module _ (spaces : List SpaceValue) (new : SpaceValue) where
  long-wide : length (spaces ++ new ∷ []) ≡ length spaces + 1
  long-wide = length-append spaces (new ∷ [])

  pub get-there : (j : ℕ) → j < length spaces → slice_get (spaces ++ new ∷ []) j ≡ slice_get spaces j
  get-there j l =
      slice_get-get_or (spaces ++ new ∷ []) j new (let n = long-wide in omega arith)
      ∙ ap Some (get_or_append_left spaces (new ∷ []) new j l) ∙ sym (slice_get-get_or spaces j new l)

  get-last : slice_get (spaces ++ new ∷ []) (length spaces) ≡ Some new
  get-last = slice_get-get_or (spaces ++ new ∷ []) (length spaces) new (let n = long-wide in omega arith) ∙ ap Some (get_or_push spaces new new (length spaces) refl)

  name-kept : (j : ℕ) (n : Name) → name_at spaces j ≡ Some n → name_at (spaces ++ new ∷ []) j ≡ Some n
  name-kept j n e = elim (cases_lt j (length spaces)) [
    | inl lt ↦ ap (option_map (λ x. x.name)) (get-there j lt) ∙ e
    | inr ge ↦ absurd (none (sym (ap (option_map (λ x. x.name)) (slice_get_past spaces j ge)) ∙ e))
  ]
    where
      none : {A : Type 0} {x : A} → None ≡ Some x → ⊥
      none e = cc

  placed-wide : (fanout size : ℕ) (st : Stage) → AtPlace fanout size spaces st → AtPlace fanout size (spaces ++ new ∷ []) st
  placed-wide fanout size (stage.Rising from to asks) h = h
  placed-wide fanout size (stage.Arrived asks) h = h
  placed-wide fanout size (stage.Joined space w) h = let n = long-wide in omega (arith, h)
  placed-wide fanout size (stage.Landed space number w) h =
      (let n = long-wide in omega (arith, h.0), subst (λ o. number < option_map_or (λ x. slice_index x.known 0) o 0) (sym (get-there space h.0)) h.1)
  placed-wide fanout size (stage.Falling from to given) h = h
  placed-wide fanout size (stage.Ended given) h = tt
  placed-wide fanout size (stage.Returning from to space asked) h = (h.0, h.1, h.2, (let n = long-wide in omega (arith, h.3)))
  placed-wide fanout size (stage.Parked space asked) h = let n = long-wide in omega (arith, h)
  placed-wide fanout size (stage.Held number given) h = tt

  unjoined-wide : (fanout size : ℕ) (st : Stage) → AtPlace fanout size spaces st → joined_in (length spaces) st ≡ false
  unjoined-wide fanout size (stage.Joined space w) h = ne_eqb space (length spaces) (λ e. omega (arith, h))
  unjoined-wide fanout size (stage.Rising from to asks) h = refl
  unjoined-wide fanout size (stage.Arrived asks) h = refl
  unjoined-wide fanout size (stage.Landed space number w) h = refl
  unjoined-wide fanout size (stage.Falling from to given) h = refl
  unjoined-wide fanout size (stage.Ended given) h = refl
  unjoined-wide fanout size (stage.Returning from to space asked) h = refl
  unjoined-wide fanout size (stage.Parked space asked) h = refl
  unjoined-wide fanout size (stage.Held number given) h = refl

  module _ (none : (by : By) → carries new by ≡ false) where
    tied-wide : (row : Row) → joined_in (length spaces) row.stage ≡ false → ((j : ℕ) (d : SpaceValue) → j < length spaces → joined_in j row.stage ≡ carries (get_or spaces j d) row.by)
        → (j : ℕ) (d : SpaceValue) → j < length (spaces ++ new ∷ []) → joined_in j row.stage ≡ carries (get_or (spaces ++ new ∷ []) j d) row.by
    tied-wide row off tied j d l = elim (cases_lt j (length spaces)) [
      | inl lt ↦ tied j d lt ∙ ap (λ x. carries x row.by) (sym (get_or_append_left spaces (new ∷ []) d j lt))
      | inr ge ↦
          let e : j ≡ length spaces = let n = long-wide in omega arith in
          ap (λ i. joined_in i row.stage) e ∙ off ∙ sym (ap (λ i. carries (get_or (spaces ++ new ∷ []) i d) row.by) e ∙ ap (λ x. carries x row.by) (get_or_push spaces new d (length spaces) refl) ∙ none row.by)
    ]

    row-wide : {entered : By → Bool} {set₀ : Setting} {log : Log} (fanout size : ℕ) (row : Row) → AtPlace fanout size spaces row.stage → RowAgrees entered set₀ log spaces row → RowAgrees entered set₀ log (spaces ++ new ∷ []) row
    row-wide {entered} {set₀} {log} fanout size row place r = record {
      asked = r.asked;
      unanswered = r.unanswered;
      request = r.request;
      made = r.made;
      home = r.home;
      inside = r.inside;
      keys = r.keys;
      needed = r.needed;
      staged = stage-respaced entered entered set₀ log spaces (spaces ++ new ∷ []) name-kept row.by (λ other e. e, refl) r.request row.stage r.staged;
      tied = tied-wide row (unjoined-wide fanout size row.stage place) r.tied;
    }

  set-last : (x : SpaceValue) → set (spaces ++ new ∷ []) (length spaces) x ≡ spaces ++ x ∷ []
  set-last x = at spaces
    where
      at : (xs : List SpaceValue) → set (xs ++ new ∷ []) (length xs) x ≡ xs ++ x ∷ []
      at [] = refl
      at (y ∷ ys) = ap (λ zs. y ∷ zs) (at ys)

  pub order-wide : 0 < length spaces → waiting-posts (spaces ++ new ∷ []) ≡ waiting-posts spaces
  order-wide l = ap posts-at (get-there 0 l)

module _ {v : KeysValue} (s : IsSound v) (i : ℕ) (within : i < length v.rows) (row : Row) (read : row ≡ get_or v.rows i row) (is : row.stage ≡ stage.Arrived ask.Create)
    (none : None ≡ position (is_named row.namespace) v.spaces) (new : SpaceValue) (name : new.name ≡ row.namespace) (fresh : (new.removed ≡ false) × (new.history ≡ []) × (new.merger ≡ idle))
    (long : length new.known ≡ v.size) (known : (b : ℕ) → b < v.size → slice_index new.known b ≡ cond (b == 0) 1 0) where
  arrived : is_arrived_stage row.stage ≡ true
  arrived = ap is_arrived_stage is

  other-name : (k : ℕ) (d : SpaceValue) → k < length v.spaces → (get_or v.spaces k d).name ≢ row.namespace
  other-name k d l e = found-none (is_named row.namespace) v.spaces none (list_any_at (is_named row.namespace) v.spaces k d l ((bytes_decides row.namespace (get_or v.spaces k d).name).1 (sym e)))

  some-space : 0 < length v.spaces
  some-space = primary-there v.spaces s.first

  one-known : slice_index new.known 0 ≡ 1
  one-known = known 0 s.size

  new-stage : Stage
  new-stage = stage.Landed (length v.spaces) 0 work.Create

  pub opened-order : waiting-posts (v.spaces ++ new ∷ []) ≡ waiting-posts v.spaces
  opened-order = order-wide v.spaces new some-space

  pub opened-fewer : (rows : List Row) → rows ≡ set v.rows i (with_stage (stage.Landed (length v.spaces) 0 work.Create) row) → all_services rows < all_services v.rows
  opened-fewer rows rows-are = fewer s i within row read (stage.Landed (length v.spaces) 0 work.Create) rows rows-are (let e : services_left row.stage ≡ 2 = arrived-left row.stage arrived in omega arith)

  pub opened-sound : IsSoundSpace v.fanout v.grant new → suc (length v.spaces) < 2 ^ 32 → live_in v.spaces < most_live → (rows : List Row) → rows ≡ set v.rows i (with_stage (stage.Landed (length v.spaces) 0 work.Create) row) → (spent : Bool)
      → IsSound (record { spent = spent; size = v.size; fanout = v.fanout; grant = v.grant; spaces = v.spaces ++ new ∷ []; rows = rows })
  opened-sound sound few room rows rows-are spent = record {
    fanout = s.fanout;
    size = s.size;
    brokers = All-push (λ x. length x.known ≡ v.size) v.spaces new s.brokers long;
    spaces = All-push (IsSoundSpace v.fanout v.grant) v.spaces new s.spaces sound;
    few = subst (λ n. n < 2 ^ 32) (sym (long-wide v.spaces new)) (let e : suc (length v.spaces) ≡ length v.spaces + 1 = omega arith in subst (λ n. n < 2 ^ 32) e few);
    room =
        let n = sum_by-append (λ x. cond (not x.removed) 1 0) v.spaces (new ∷ []) in
        let m = sum_by-cons (λ x. cond (not x.removed) 1 0) new [] in
        let o : ◌≡◌ {A = ℕ} (cond (not new.removed) 1 0) 1 = ap (λ b. cond (not b) 1 0) fresh.0 in
        let z : live_in (v.spaces ++ new ∷ []) ≡ live_in v.spaces + (1 + 0) = n ∙ ap (λ x. live_in v.spaces + x) (m ∙ ap (λ x. x + 0) o) in
        omega arith;
    first = name-kept v.spaces new 0 primary s.first;
    apart = all_pairs_push (λ one other. one.name ≢ other.name) v.spaces new s.apart (λ k d l e. other-name k d l (e ∙ name));
    placed = subst (λ rs. (k : ℕ) (d : Row) → k < length rs → IsPlaced v.fanout v.size (v.spaces ++ new ∷ []) (get_or rs k d)) (sym rows-are)
        (All-set (IsPlaced v.fanout v.size (v.spaces ++ new ∷ [])) v.rows i (with_stage (stage.Landed (length v.spaces) 0 work.Create) row)
        (record { home = (subst (IsPlaced v.fanout v.size v.spaces) (sym read) (s.placed i row within)).home; place = ((let n = long-wide v.spaces new in omega arith), first-known) })
        (λ k d l. record { home = (s.placed k d l).home; place = placed-wide v.spaces new v.fanout v.size (get_or v.rows k d).stage (s.placed k d l).place }));
  } where
    first-known : 0 < known_at (v.spaces ++ new ∷ []) (length v.spaces) 0
    first-known =
        let e : known_at (v.spaces ++ new ∷ []) (length v.spaces) 0 ≡ slice_index new.known 0 = ap (λ o. option_map_or (λ x. slice_index x.known 0) o 0) (get-last v.spaces new) in
        let o = one-known in
        omega arith

  module _ {set₀ : Setting} {log : Log} (a : Agrees v set₀ log) where
    abbrev m : Moment
    m = Happened (event.Landed row.namespace 0 (Some row.by ∷ []) [])

    abbrev r : RowAgrees a.entered set₀ log v.spaces row
    r = row-agrees s i within row read a

    unused : is_opened log row.namespace ≡ false
    unused = unopened s i within row read none a

    untouched : IsUntouched log row.namespace
    untouched = a.untold row.namespace unused

    off : (other : Name) → other ≢ row.namespace → IsElsewhere other (Happened (event.Landed row.namespace 0 (Some row.by ∷ []) []))
    off other ne = record { groups = refl; number = ap (λ b. cond b (Some 0) None) (named-apart other row.namespace ne); removed = refl; silent = λ b. refl }

    aside : (by : By) → by ≢ row.by → IsAside by (Happened (event.Landed row.namespace 0 (Some row.by ∷ []) []))
    aside by ne = record { asks = refl; answers = refl; lands = or-false _ ∙ differs by row.by ne; denies = refl }

    others : (k : ℕ) (d : SpaceValue) → k < length v.spaces → Each (λ b. IsAside b (Happened (event.Landed row.namespace 0 (Some row.by ∷ []) []))) (waiting (queued (get_or v.spaces k d).merger))
    others k d l = each-map (IsAwaited set₀ v.rows k) (λ b. IsAside b (Happened (event.Landed row.namespace 0 (Some row.by ∷ []) []))) (waiting (queued (get_or v.spaces k d).merger)) (all-joined (rows-of a) k d l (a.spaces k d l).fresh (space-plain (a.spaces k d l)))
        (λ b h. aside b (other-commands (rows-of a) i row within read k (arrived-unjoined row.stage arrived k) b h))

    -- the namespace when rank 0 hasn't heard of it yet
    abbrev between : SpaceValue
    between = record { name = new.name; removed = new.removed; history = new.history; known = set new.known 0 0; stores = new.stores; links = new.links; merger = new.merger }

    zero-known : (b : ℕ) → b < v.size → slice_index (set new.known 0 0) b ≡ 0
    zero-known b l = elim (cases_eq b 0) [
      | inl e ↦ ap (slice_index (set new.known 0 0)) e ∙ get_or-set_same new.known 0 0 0 (let n = long in let p = s.size in omega arith)
      | inr ne ↦ get_or-set_other new.known 0 b 0 0 ne ∙ known b l ∙ ap (λ t. cond {A = ℕ} t 1 0) (ne_eqb b 0 ne)
    ]

    named : bytes_eq new.name row.namespace ≡ true
    named = (bytes_decides new.name row.namespace).1 name

    landed-now : landed (log ++ Happened (event.Landed row.namespace 0 (Some row.by ∷ []) []) ∷ []) new.name ≡ 0
    landed-now = landed_push log _ new.name ∙ ap (λ b. unwrap_or (cond b (Some 0) None) (landed log new.name)) named

    first-here : SpaceAgrees set₀ (log ++ Happened (event.Landed row.namespace 0 (Some row.by ∷ []) []) ∷ []) v.size between
    first-here = record {
      history = landings_push log _ new.name ∙ append-nil _ ∙ ap (landings log) name ∙ untouched.unlanded ∙ sym fresh.1;
      last = ap suc landed-now ∙ sym (ap (λ h. 1 + length h + cond new.removed 1 0) fresh.1 ∙ ap (λ b. 1 + 0 + cond b 1 0) fresh.0);
      removed = removed-kept log _ new.name refl ∙ ap (is_removed log) name ∙ untouched.unremoved ∙ sym fresh.0;
      told = λ b l. heard-push log _ b new.name ∙ ap (heard log b) name ∙ untouched.unheard b ∙ sym (ap number_of (zero-known b l));
      kinds = subst (λ g. Each (IsWaiting set₀ new.name) g.ready) (sym fresh.2) tt;
      joining = subst (λ g. Each (AreJoining set₀ new.name) g.fences) (sym fresh.2) tt;
      fresh = subst (λ g. AreFresh set₀ (log ++ Happened (event.Landed row.namespace 0 (Some row.by ∷ []) []) ∷ []) (commands_of (names_of (queued g)))) (sym fresh.2) (record { differ = tt; fresh = tt });
    }

    opened-now : (space : Name) → space ≡ row.namespace → is_opened (log ++ Happened (event.Landed row.namespace 0 (Some row.by ∷ []) []) ∷ []) space ≡ true
    opened-now space e = opened_push log _ space ∙ ap (λ b. is_primary space || (list_any (bytes_eq space) (opened_names log) || (b || false))) ((bytes_decides space row.namespace).1 e) ∙ ends (is_primary space) (list_any (bytes_eq space) (opened_names log))
      where
        ends : (x y : Bool) → (x || (y || true)) ≡ true
        ends true y = refl
        ends false true = refl
        ends false false = refl

    first-head : IsHead v.size v.fanout v.grant (v.spaces ++ between ∷ []) set₀ (log ++ Happened (event.Landed row.namespace 0 (Some row.by ∷ []) []) ∷ [])
    first-head = record {
      size_is = a.size;
      fanout_is = a.fanout;
      base_is = a.base;
      links_are = a.links;
      owned = owned-then (head-of a) m (λ space. tt);
      names = map-append (λ x. x.name) v.spaces (between ∷ []) ∙ ap (λ ns. ns ++ new.name ∷ []) a.names ∙ ap (λ n. (primary ∷ opened_names log) ++ n ∷ []) name ∙ sym (ap (λ ns. primary ∷ ns) (filter_map-append name_opened log (m ∷ [])));
      each = All-push (SpaceAgrees set₀ (log ++ m ∷ []) v.size) v.spaces between (λ k d l. space-kept (a.spaces k d l) m (off (get_or v.spaces k d).name (other-name k d l)) (others k d l)) first-here;
      untold = λ space e. untouched-kept log m space (off space (λ q. true≢false (sym (opened-now space q) ∙ e))) (a.untold space (was_unopened log (m ∷ []) space e));
    }

    grows : Grows log (Happened (event.Landed row.namespace 0 (Some row.by ∷ []) []))
    grows = record {
      told = told-silent log _ (λ b space. refl);
      rises = λ space. up space (bytes_eq space row.namespace) refl;
      ends = λ space gone. over space gone (bytes_eq space row.namespace) refl;
    } where
      up : (space : Name) (t : Bool) → bytes_eq space row.namespace ≡ t → landed log space ≤ landed (log ++ Happened (event.Landed row.namespace 0 (Some row.by ∷ []) []) ∷ []) space
      up space true e = let z : landed log space ≡ 0 = ap (landed log) ((bytes_decides space row.namespace).0 e) ∙ untouched.unnumbered in omega arith
      up space false e = let z : landed (log ++ m ∷ []) space ≡ landed log space = landed_push log m space ∙ ap (λ b. unwrap_or (cond b (Some 0) None) (landed log space)) e in omega arith

      over : (space : Name) → is_removed log space ≡ true → (t : Bool) → bytes_eq space row.namespace ≡ t → landed (log ++ Happened (event.Landed row.namespace 0 (Some row.by ∷ []) []) ∷ []) space ≡ landed log space
      over space gone true e = absurd (true≢false (sym gone ∙ ap (is_removed log) ((bytes_decides space row.namespace).0 e) ∙ untouched.unremoved))
      over space gone false e = landed_push log _ space ∙ ap (λ b. unwrap_or (cond b (Some 0) None) (landed log space)) e

    none-carried : (by : By) → carries between by ≡ false
    none-carried by = ap (λ g. list_any (is_authored by) (queued g)) fresh.2

    row-opened : RowAgrees a.entered set₀ (log ++ Happened (event.Landed row.namespace 0 (Some row.by ∷ []) []) ∷ []) (v.spaces ++ between ∷ []) (with_stage (stage.Landed (length v.spaces) 0 work.Create) row)
    row-opened =
        let staged = arrived-staged s i within row read a ask.Create is in
        record {
          asked = any-kept (asks_now row.by) log m refl ∙ r.asked;
          unanswered = any-kept (answers_now row.by) log m refl ∙ r.unanswered;
          request = r.request;
          made = r.made;
          home = r.home;
          inside = r.inside;
          keys = r.keys;
          needed = need-kept log m row.by r.request row.need grows refl r.asked r.needed;
          staged = (
            staged.1,
            any-kept (denies_now row.by) log m refl ∙ staged.0.undenied,
            record {
              authors = Some row.by ∷ [];
              groups = [];
              landing = subst (λ n. Contains (log ++ m ∷ []) (Happened (event.Landed n 0 (Some row.by ∷ []) []))) (sym r.inside) (last-stands log m);
              named = (0, omega arith, refl);
            },
            ap (option_map (λ x. x.name)) (get-last v.spaces between) ∙ ap Some (name ∙ sym r.inside),
          );
          tied = tied-wide v.spaces between none-carried (with_stage (stage.Landed (length v.spaces) 0 work.Create) row) refl (λ j d l. sym (arrived-unjoined row.stage arrived j) ∙ r.tied j d l);
        }

    row-beside : (j : ℕ) (d : Row) → j < length v.rows → j ≢ i → RowAgrees a.entered set₀ (log ++ Happened (event.Landed row.namespace 0 (Some row.by ∷ []) []) ∷ []) (v.spaces ++ between ∷ []) (get_or v.rows j d)
    row-beside j d l ne = row-wide v.spaces between none-carried v.fanout v.size (get_or v.rows j d) (s.placed j d l).place
        (row-kept a.entered set₀ log v.spaces m (get_or v.rows j d) grows (λ other inside told kept q. cc) (aside (get_or v.rows j d).by (λ e. beside (rows-of a) i j d within l ne (e ∙ by-there s i within row read d))) (a.rows j d l))

    first-rows : RowsAgree a.entered set₀ (log ++ Happened (event.Landed row.namespace 0 (Some row.by ∷ []) []) ∷ []) (v.spaces ++ between ∷ []) (set v.rows i (with_stage (stage.Landed (length v.spaces) 0 work.Create) row))
    first-rows = rows-ruled (rows-of a) (v.spaces ++ between ∷ []) (set v.rows i new-row) m (length-set v.rows i new-row) (λ k d l. set-kept (λ x. x.by) v.rows i new-row (by-there s i within row read) k d l) (λ by. refl)
        (λ by some e. aside by (λ q. true≢false (sym r.asked ∙ ap (λ b. is_asked b log) (sym q) ∙ e)))
        (λ k d l. set-all (RowAgrees a.entered set₀ (log ++ m ∷ []) (v.spaces ++ between ∷ [])) v.rows i new-row row-opened row-beside k d (subst (λ n. k < n) (sym (length-set v.rows i new-row)) l))
      where
        new-row : Row
        new-row = with_stage (stage.Landed (length v.spaces) 0 work.Create) row

    apart-wide : AllPairs (λ one other. one.name ≢ other.name) (v.spaces ++ between ∷ [])
    apart-wide = all_pairs_push (λ one other. one.name ≢ other.name) v.spaces between s.apart (λ k d l e. other-name k d l (e ∙ name))

    last-there : length v.spaces < length (v.spaces ++ between ∷ [])
    last-there = let n = long-wide v.spaces between in omega arith

    read-last : between ≡ get_or (v.spaces ++ between ∷ []) (length v.spaces) between
    read-last = sym (get_or_push v.spaces between between (length v.spaces) refl)

    long-between : length between.known ≡ v.size
    long-between = length-set new.known 0 0 ∙ long

    less : slice_index between.known 0 < 1
    less = let z = zero-known 0 s.size in omega arith

    known-then : new.known ≡ set between.known 0 1
    known-then = sym (set-twice new.known 0 0 1 ∙ ap (set new.known 0) (sym one-known) ∙ set-get_or new.known 0 0)

    pub opening-legal : live_in v.spaces < most_live → IsLegalAfter set₀ log (Happened (event.Landed row.namespace 0 (Some row.by ∷ []) []) ∷ Happened (event.Heard 0 row.namespace 0) ∷ [])
    opening-legal room =
        let staged = arrived-staged s i within row read a ask.Create is in
        let count = live-count s a in
        let landing : IsLegalLanding set₀ log row.namespace 0 (Some row.by ∷ []) [] = record {
          fresh = record { differ = (tt, tt); fresh = (record { unanswered = r.unanswered; unlanded = staged.0.unlanded; undenied = staged.0.undenied; asked = λ some. r.asked }, tt) };
          form = inl (record { by = row.by; alone = refl; asked = record { request = r.request; made = r.made; inside = r.inside; asked = staged.1 }; empty = refl; first = refl; unused = unused; room = omega arith });
          first = λ settled. (unrivalled-else set₀ log row.by (λ space fence number txn h. fence-not-create fence number txn (asks-once set₀ row.by space (ask.Fence fence number txn) ask.Create r.request h r.made staged.1)) row.namespace, tt);
        } in
        let hearing : IsLegalHearing set₀ (log ++ m ∷ []) 0 new.name 0 = heard-legal apart-wide (length v.spaces) last-there between new read-last long-between first-head first-rows 0 0 s.size less (omega arith) (inl refl) in
        (landing, (subst (λ n. IsLegalHearing set₀ (log ++ m ∷ []) 0 n 0) name hearing, tt))

    pub opening-agrees : (rows : List Row) → rows ≡ set v.rows i (with_stage (stage.Landed (length v.spaces) 0 work.Create) row)
        → Agrees (record { spent = false; size = v.size; fanout = v.fanout; grant = v.grant; spaces = v.spaces ++ new ∷ []; rows = rows }) set₀ (log ++ Happened (event.Landed row.namespace 0 (Some row.by ∷ []) []) ∷ Happened (event.Heard 0 row.namespace 0) ∷ [])
    opening-agrees rows rows-are =
        let head = heard-head apart-wide (length v.spaces) last-there between new read-last long-between first-head first-rows 0 0 s.size less (omega arith) refl refl refl known-then refl in
        let there = heard-rows apart-wide (length v.spaces) last-there between new read-last long-between first-head first-rows 0 0 s.size less (omega arith) refl refl refl known-then refl in
        subst (λ rs. Agrees (record { spent = false; size = v.size; fanout = v.fanout; grant = v.grant; spaces = v.spaces ++ new ∷ []; rows = rs }) set₀ (log ++ m ∷ Happened (event.Heard 0 row.namespace 0) ∷ [])) (sym rows-are)
        (subst (λ n. Agrees (record { spent = false; size = v.size; fanout = v.fanout; grant = v.grant; spaces = v.spaces ++ new ∷ []; rows = set v.rows i new-row }) set₀ (log ++ m ∷ Happened (event.Heard 0 n 0) ∷ [])) name
        (subst (Agrees (record { spent = false; size = v.size; fanout = v.fanout; grant = v.grant; spaces = v.spaces ++ new ∷ []; rows = set v.rows i new-row }) set₀) (append_assoc log (m ∷ []) (Happened (event.Heard 0 new.name 0) ∷ []))
        (subst (λ ss. Agrees (record { spent = false; size = v.size; fanout = v.fanout; grant = v.grant; spaces = ss; rows = set v.rows i new-row }) set₀ ((log ++ m ∷ []) ++ Happened (event.Heard 0 new.name 0) ∷ [])) (set-last v.spaces between new)
        (agrees-of {v = record { spent = false; size = v.size; fanout = v.fanout; grant = v.grant; spaces = set (v.spaces ++ between ∷ []) (length v.spaces) new; rows = set v.rows i new-row }} head there
        (λ settled. turns-quiet (turns-happened (turns-happened (a.turns settled) (event.Landed row.namespace 0 (Some row.by ∷ []) [])) (event.Heard 0 new.name 0)) (set (v.spaces ++ between ∷ []) (length v.spaces) new) (set v.rows i (with_stage (stage.Landed (length v.spaces) 0 work.Create) row))
        (nobody-set (a.turns settled) a.apart i within row read (arrived-comes row.stage arrived) (with_stage (stage.Landed (length v.spaces) 0 work.Create) row) refl refl))))))
      where
        new-row : Row
        new-row = with_stage (stage.Landed (length v.spaces) 0 work.Create) row

-- a name that the table has not is another than `primary`
pub unnamed-other : {v : KeysValue} → IsSound v → (name : Name) → None ≡ position (is_named name) v.spaces → is_primary name ≡ false
unnamed-other {v} s name none = at (is_primary name) refl
  where
    at : (b : Bool) → is_primary name ≡ b → b ≡ false
    at false e = refl
    at true e =
        let l = primary-there v.spaces s.first in
        let first : Some (get_or v.spaces 0 no-space).name ≡ Some primary = sym (ap (option_map (λ x. x.name)) (slice_get-get_or v.spaces 0 no-space l)) ∙ s.first in
        let is : (get_or v.spaces 0 no-space).name ≡ primary = cc in
        absurd (found-none (is_named name) v.spaces none (list_any_at (is_named name) v.spaces 0 no-space l ((bytes_decides name (get_or v.spaces 0 no-space).name).1 ((bytes_decides name primary).0 e ∙ sym is))))
