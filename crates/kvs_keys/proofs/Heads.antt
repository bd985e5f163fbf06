-- What a further moment leaves of what the log says of the namespaces.
use Rattle.std.proofs.Common.{◌≡◌, ℕ, zero, suc, ◌<◌, inl, inr, List, [], ◌∷◌, ◌++◌, length, map, Bool, true, false, cond, ◌&&◌, ◌||◌, ◌==◌, Option, Some, None, unwrap_or, refl, sym, ap, ◌∙◌, subst, arith, get_or, set, bytes_eq, append-nil, length-append}
use Rattle.std.specs.Prelude.{IfSome, IsTrue, slice_index}
use Rattle.std.specs.List.{cons_option, list_any, AllByRecursion as Each}
use Rattle.std.proofs.Math.Bool.{or-false}
use Rattle.std.proofs.lemmas.Bool.{cases_eq}
use Rattle.std.proofs.lemmas.Bool.Decides.{nat_tests}
use Rattle.std.proofs.lemmas.List.{length-map, get_or-map, get_or-set_same, get_or-set_other}
use Rattle.std.proofs.lemmas.List.Elements.{filter_map-append}
use Rattle.std.proofs.lemmas.List.Folds.{list_any_at}
use Rattle.std.specs.Cmp.Lexicographic.{bytes_decides}
use Rattle.kvs_txn.specs.declared.txn.By.{By}
use Rattle.kvs_txn.specs.declared.txn.Group.{Group}
use Rattle.kvs_model.specs.Store.{Name}
use Rattle.kvs_rules.specs.declared.events.KvsEvent.TheVariants as event
use Rattle.kvs_rules.specs.Log.{Log, Moment, Happened}
use Rattle.kvs_rules.specs.Namespaces.{Setting, fresh, landed, landings, primary, is_primary, number_landed, groups_landed, name_opened, name_removed, opened_names, is_opened, is_removed}
use Rattle.kvs_rules.specs.OneStore.{AsksOwn}
use Rattle.kvs_model.specs.OneStore.{AreOwn}
use Rattle.kvs_rules.specs.Brokers.{heard, number_heard}
use Rattle.kvs_rules.specs.Landings.{AreFresh}
use Rattle.kvs_rules.proofs.Logs.{landed_push, was_unopened}
use Rattle.kvs_rules.proofs.Stores.{landings_push, removed_push}
use Rattle.kvs_keys.specs.Value.{KeysValue}
use Rattle.kvs_space.specs.Space.{SpaceValue, number_of, queued}
use Rattle.kvs_keys.specs.Agrees.{Agrees, IsUntouched, IsWaiting, SpaceAgrees}
use Rattle.kvs_requests.specs.Agreement.{Entrants, RowsAgree}
use Rattle.kvs_keys.specs.Turns.{InTurn}
use Rattle.kvs_keys.proofs.Carried.{waiting, fresh-kept, fresh-right, each-right, queue-split}
use Rattle.kvs_requests.proofs.Later.{heard-push, IsAside}

-- what a service of keys has of a log besides its requests
pub record IsHead (size fanout : ℕ) (grant : List ℕ) (spaces : List SpaceValue) (set : Setting) (log : Log) : Type 0 where
  pub size_is : set.size ≡ size
  pub fanout_is : set.fanout ≡ fanout
  pub base_is : set.base ≡ fresh grant
  pub links_are : AsksOwn set
  pub owned : (space : Name) → Each (Each AreOwn) (landings log space)
  pub names : map (λ s. s.name) spaces ≡ primary ∷ opened_names log
  pub each : (k : ℕ) (d : SpaceValue) → k < length spaces → SpaceAgrees set log size (get_or spaces k d)
  pub untold : (space : Name) → is_opened log space ≡ false → IsUntouched log space

pub head-of : {v : KeysValue} {set : Setting} {log : Log} → Agrees v set log → IsHead v.size v.fanout v.grant v.spaces set log
head-of a = record { size_is = a.size; fanout_is = a.fanout; base_is = a.base; links_are = a.links; owned = a.own; names = a.names; each = a.spaces; untold = a.untold }

pub rows-of : {v : KeysValue} {set : Setting} {log : Log} (a : Agrees v set log) → RowsAgree a.entered set log v.spaces v.rows
rows-of a = record { rows = a.rows; apart = a.apart; strange = a.strange; outside = a.outside; open_rows = a.open_rows }

pub agrees-of : {v : KeysValue} {entered : Entrants} {set : Setting} {log : Log} → IsHead v.size v.fanout v.grant v.spaces set log → RowsAgree entered set log v.spaces v.rows → (IsTrue set.settled → InTurn entered set log v.spaces v.rows) → Agrees v set log
agrees-of {entered = entered} h r t = record { size = h.size_is; fanout = h.fanout_is; base = h.base_is; links = h.links_are; own = h.owned; names = h.names; spaces = h.each; untold = h.untold; entered = entered; rows = r.rows; apart = r.apart; strange = r.strange; outside = r.outside; open_rows = r.open_rows; turns = t }

-- a moment says nothing of a namespace's landings and hearings
pub record IsElsewhere (name : Name) (m : Moment) : Type 0 where
  pub groups : groups_landed name m ≡ None
  pub number : number_landed name m ≡ None
  pub removed : list_any (bytes_eq name) (cons_option (name_removed m) []) ≡ false
  pub silent : (b : ℕ) → number_heard b name m ≡ None

pub removed-kept : (log : Log) (m : Moment) (name : Name) → list_any (bytes_eq name) (cons_option (name_removed m) []) ≡ false → is_removed (log ++ m ∷ []) name ≡ is_removed log name
removed-kept log m name e = removed_push log m name ∙ ap (λ b. is_removed log name || b) e ∙ or-false _

-- a namespace of which the log says nothing stays so
pub untouched-kept : (log : Log) (m : Moment) (space : Name) → IsElsewhere space m → IsUntouched log space → IsUntouched (log ++ m ∷ []) space
untouched-kept log m space off u = record {
  unheard = λ b. heard-push log m b space ∙ ap (λ o. unwrap_or o (heard log b space)) (off.silent b) ∙ u.unheard b;
  unlanded = landings_push log m space ∙ ap (λ o. landings log space ++ cons_option o []) off.groups ∙ append-nil _ ∙ u.unlanded;
  unnumbered = landed_push log m space ∙ ap (λ o. unwrap_or o (landed log space)) off.number ∙ u.unnumbered;
  unremoved = removed-kept log m space off.removed ∙ u.unremoved;
}

module _ {set₀ : Setting} {log : Log} {size : ℕ} {s : SpaceValue} (a : SpaceAgrees set₀ log size s) where
  pub space-kept : (m : Moment) → IsElsewhere s.name m → Each (λ by. IsAside by m) (waiting (queued s.merger)) → SpaceAgrees set₀ (log ++ m ∷ []) size s
  space-kept m off aside = record {
    history = landings_push log m s.name ∙ ap (λ o. landings log s.name ++ cons_option o []) off.groups ∙ append-nil _ ∙ a.history;
    last = ap suc (landed_push log m s.name ∙ ap (λ o. unwrap_or o (landed log s.name)) off.number) ∙ a.last;
    removed = removed-kept log m s.name off.removed ∙ a.removed;
    told = λ b l. heard-push log m b s.name ∙ ap (λ o. unwrap_or o (heard log b s.name)) (off.silent b) ∙ a.told b l;
    kinds = a.kinds;
    joining = a.joining;
    fresh = fresh-kept log m (waiting (queued s.merger)) a.fresh aside;
  }

  bytes-same : (name : Name) → bytes_eq name name ≡ true
  bytes-same name = (bytes_decides name name).1 refl

  -- a landing of the next number there
  pub space-landed : (number : ℕ) (g : Group) (gs rest : List Group) → number ≡ landed log s.name → s.removed ≡ false → s.merger.ready ≡ (g ∷ gs) ++ rest
      → (authors : List (Option By)) → Each (λ by. IsAside by (Happened (event.Landed s.name (suc number) authors (g ∷ gs)))) (waiting (queued (record { fences = s.merger.fences; ready = rest })))
      → SpaceAgrees set₀ (log ++ Happened (event.Landed s.name (suc number) authors (g ∷ gs)) ∷ []) size
      (record { name = s.name; removed = s.removed; history = s.history ++ (g ∷ gs) ∷ []; known = s.known; stores = s.stores; links = s.links; merger = record { fences = s.merger.fences; ready = rest } })
  space-landed number g gs rest counts living queue authors aside =
      let m : Moment = Happened (event.Landed s.name (suc number) authors (g ∷ gs)) in
      record {
        history = landings_push log m s.name ∙ ap (λ b. landings log s.name ++ cons_option (cond b (Some (g ∷ gs)) None) []) (bytes-same s.name) ∙ ap (λ ls. ls ++ (g ∷ gs) ∷ []) a.history;
        last =
            let e : landed (log ++ m ∷ []) s.name ≡ suc number = landed_push log m s.name ∙ ap (λ b. unwrap_or (cond b (Some (suc number)) None) (landed log s.name)) (bytes-same s.name) in
            let n = length-append s.history ((g ∷ gs) ∷ []) in
            let l = a.last in
            omega arith;
        removed = removed-kept log m s.name refl ∙ a.removed;
        told = λ b l. heard-push log m b s.name ∙ a.told b l;
        kinds = each-right (IsWaiting set₀ s.name) (g ∷ gs) rest (subst (Each (IsWaiting set₀ s.name)) queue a.kinds);
        joining = a.joining;
        fresh = fresh-kept log m (waiting (queued (record { fences = s.merger.fences; ready = rest }))) (fresh-right log (g ∷ gs) (queued (record { fences = s.merger.fences; ready = rest })) (subst (λ q. AreFresh set₀ log (waiting q)) (queue-split s.merger.fences s.merger.ready (g ∷ gs) rest queue) a.fresh)) aside;
      }

  -- a transaction there is denied
  pub space-denied : (g : Group) (rest : List Group) (m : Moment) → IsElsewhere s.name m → s.merger.ready ≡ g ∷ rest → Each (λ by. IsAside by m) (waiting (queued (record { fences = s.merger.fences; ready = rest })))
      → SpaceAgrees set₀ (log ++ m ∷ []) size (record { name = s.name; removed = s.removed; history = s.history; known = s.known; stores = s.stores; links = s.links; merger = record { fences = s.merger.fences; ready = rest } })
  space-denied g rest m off queue aside = record {
    history = landings_push log m s.name ∙ ap (λ o. landings log s.name ++ cons_option o []) off.groups ∙ append-nil _ ∙ a.history;
    last = ap suc (landed_push log m s.name ∙ ap (λ o. unwrap_or o (landed log s.name)) off.number) ∙ a.last;
    removed = removed-kept log m s.name off.removed ∙ a.removed;
    told = λ b l. heard-push log m b s.name ∙ ap (λ o. unwrap_or o (heard log b s.name)) (off.silent b) ∙ a.told b l;
    kinds = each-right (IsWaiting set₀ s.name) (g ∷ []) rest (subst (Each (IsWaiting set₀ s.name)) queue a.kinds);
    joining = a.joining;
    fresh = fresh-kept log m (waiting (queued (record { fences = s.merger.fences; ready = rest }))) (fresh-right log (g ∷ []) (queued (record { fences = s.merger.fences; ready = rest })) (subst (λ q. AreFresh set₀ log (waiting q)) (queue-split s.merger.fences s.merger.ready (g ∷ []) rest queue) a.fresh)) aside;
  }

  -- a broker hears a number of it
  pub space-heard : (broker number : ℕ) → broker < length s.known → Each (λ by. IsAside by (Happened (event.Heard broker s.name number))) (waiting (queued s.merger))
      → SpaceAgrees set₀ (log ++ Happened (event.Heard broker s.name number) ∷ []) size
      (record { name = s.name; removed = s.removed; history = s.history; known = set s.known broker (suc number); stores = s.stores; links = s.links; merger = s.merger })
  space-heard broker number within aside = record {
    history = landings_push log m s.name ∙ append-nil _ ∙ a.history;
    last = ap suc (landed_push log m s.name) ∙ a.last;
    removed = removed-kept log m s.name refl ∙ a.removed;
    told = told-now;
    kinds = a.kinds;
    joining = a.joining;
    fresh = fresh-kept log m (waiting (queued s.merger)) a.fresh aside;
  } where
    m : Moment
    m = Happened (event.Heard broker s.name number)

    told-now : (b : ℕ) → b < size → heard (log ++ m ∷ []) b s.name ≡ number_of (slice_index (set s.known broker (suc number)) b)
    told-now b l = elim (cases_eq b broker) [
      | inl e ↦
          let t : (b == broker) ≡ true = grind (arith, nat_tests) in
          let n : slice_index (set s.known broker (suc number)) b ≡ suc number = ap (λ x. slice_index (set s.known broker (suc number)) x) e ∙ get_or-set_same s.known broker (suc number) 0 within in
          heard-push log m b s.name ∙ ap (λ x. unwrap_or (cond (x && bytes_eq s.name s.name) (Some (Some number)) None) (heard log b s.name)) t
          ∙ ap (λ x. unwrap_or (cond x (Some (Some number)) None) (heard log b s.name)) (bytes-same s.name) ∙ ap number_of (sym n)
      | inr ne ↦
          let t : (b == broker) ≡ false = grind (arith, nat_tests) in
          let n : slice_index (set s.known broker (suc number)) b ≡ slice_index s.known b = get_or-set_other s.known broker b (suc number) 0 ne in
          heard-push log m b s.name ∙ ap (λ x. unwrap_or (cond (x && bytes_eq s.name s.name) (Some (Some number)) None) (heard log b s.name)) t ∙ a.told b l ∙ ap number_of (sym n)
    ]

module _ {size fanout : ℕ} {grant : List ℕ} {spaces : List SpaceValue} {service : Setting} {log : Log} (head : IsHead size fanout grant spaces service log) where
  pub name-of : (k : ℕ) (d : SpaceValue) → k < length spaces → get_or (primary ∷ opened_names log) k [] ≡ (get_or spaces k d).name
  name-of k d l = ap (λ ns. get_or ns k []) (sym head.names) ∙ get_or-map (λ s. s.name) spaces k d [] l

  pub count-of : length spaces ≡ suc (length (opened_names log))
  count-of = sym (length-map spaces (λ s. s.name)) ∙ ap length head.names

  or-end : (b : Bool) → (b || true) ≡ true
  or-end true = refl
  or-end false = refl

  -- the namespaces of the table are opened
  pub opened-there : (k : ℕ) (d : SpaceValue) → k < length spaces → is_opened log (get_or spaces k d).name ≡ true
  opened-there zero d l = ap (is_opened log) (sym (name-of zero d l))
  opened-there (suc j) d l =
      let name = (get_or spaces (suc j) d).name in
      let n = count-of in
      let at : get_or (opened_names log) j [] ≡ name = name-of (suc j) d l in
      let any : list_any (bytes_eq name) (opened_names log) ≡ true = list_any_at (bytes_eq name) (opened_names log) j [] (omega arith) (ap (bytes_eq name) at ∙ (bytes_decides name name).1 refl) in
      ap (λ b. is_primary name || b) any ∙ or-end (is_primary name)

  -- what lands at a moment makes own links
  pub owned-then : (m : Moment) → ((space : Name) → IfSome (groups_landed space m) (Each AreOwn)) → (space : Name) → Each (Each AreOwn) (landings (log ++ m ∷ []) space)
  owned-then m lands space = subst (Each (Each AreOwn)) (sym (landings_push log m space)) (by (groups_landed space m) (lands space))
    where
      joined : (xs ys : List (List Group)) → Each (Each AreOwn) xs → Each (Each AreOwn) ys → Each (Each AreOwn) (xs ++ ys)
      joined [] ys a b = b
      joined (x ∷ xs) ys a b = (a.0, joined xs ys a.1 b)

      by : (o : Option (List Group)) → IfSome o (Each AreOwn) → Each (Each AreOwn) (landings log space ++ cons_option o [])
      by None h = joined (landings log space) [] (head.owned space) tt
      by (Some groups) h = joined (landings log space) (groups ∷ []) (head.owned space) (h, tt)

  -- a moment that opens no namespace
  pub head-then : (spaces₁ : List SpaceValue) (m : Moment) → ((space : Name) → IfSome (groups_landed space m) (Each AreOwn)) → map (λ s. s.name) spaces₁ ≡ map (λ s. s.name) spaces → name_opened m ≡ None
      → ((k : ℕ) (d : SpaceValue) → k < length spaces₁ → SpaceAgrees service (log ++ m ∷ []) size (get_or spaces₁ k d))
      → ((space : Name) → is_opened log space ≡ false → IsElsewhere space m) → IsHead size fanout grant spaces₁ service (log ++ m ∷ [])
  head-then spaces₁ m lands same none each off = record {
    size_is = head.size_is;
    fanout_is = head.fanout_is;
    base_is = head.base_is;
    links_are = head.links_are;
    owned = owned-then m lands;
    names = same ∙ head.names ∙ ap (λ ns. primary ∷ ns) (sym (filter_map-append name_opened log (m ∷ []) ∙ ap (λ o. opened_names log ++ cons_option o []) none ∙ append-nil _));
    each = each;
    untold = λ space e. let was = was_unopened log (m ∷ []) space e in untouched-kept log m space (off space was) (head.untold space was);
  }

  -- a moment without a landing and without a hearing
  pub head-kept : (m : Moment) → name_opened m ≡ None → ((name : Name) → IsElsewhere name m) → ((k : ℕ) (d : SpaceValue) → k < length spaces → Each (λ by. IsAside by m) (waiting (queued (get_or spaces k d).merger))) → IsHead size fanout grant spaces service (log ++ m ∷ [])
  head-kept m none off aside = head-then spaces m (λ space. subst (λ o. IfSome o (Each AreOwn)) (sym (off space).groups) tt) refl none (λ k d l. space-kept (head.each k d l) m (off (get_or spaces k d).name) (aside k d l)) (λ space e. off space)
