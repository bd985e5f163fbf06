-- A service of keys in which one namespace has changed.
use Rattle.std.proofs.Common.{◌≡◌, ◌≢◌, ℕ, zero, suc, ◌^◌, ◌<◌, ◌≤◌, inl, inr, List, [], ◌∷◌, length, map, Bool, true, not, cond, Some, option_map, refl, sym, ap, ◌∙◌, subst, arith, get_or, set}
use Rattle.std.specs.Prelude.{slice_index, slice_get}
use Rattle.std.specs.List.{AllPairs}
use Rattle.std.specs.Option.{option_map_or}
use Rattle.std.proofs.lemmas.Bool.{cases_eq, cases_lt}
use Rattle.std.proofs.Math.Seq.{map-set_same}
use Rattle.std.proofs.lemmas.List.{length-set, get_or-set_same, get_or-set_other, get_or_default}
use Rattle.std.proofs.lemmas.List.Sums.{sum_by-set}
use Rattle.std.proofs.lemmas.Option.{slice_get-get_or, slice_get_past}
use Rattle.kvs_rules.specs.Log.{Log}
use Rattle.kvs_rules.specs.Namespaces.{Setting, most_live}
use Rattle.kvs_requests.specs.declared.rows.Row.{Row}
use Rattle.kvs_requests.specs.declared.rows.Stage.{Stage}
use Rattle.kvs_requests.specs.declared.rows.Stage.TheVariants as stage
use Rattle.kvs_requests.specs.Rows.{AtPlace, ArePlaced}
use Rattle.kvs_space.specs.Sound.{IsSoundSpace}
use Rattle.kvs_keys.specs.Sound.{IsSound}
use Rattle.kvs_space.specs.Space.{SpaceValue, known_at, live_in, name_at, link_at}
use Rattle.kvs_keys.specs.Steps.{news}
use Rattle.kvs_keys.specs.Agrees.{SpaceAgrees}
use Rattle.kvs_keys.specs.Value.{KeysValue}
use Rattle.kvs_space.proofs.Finding.{set-all, set-count, set-kept}

module _ (spaces : List SpaceValue) (k : ℕ) (within : k < length spaces) (old new : SpaceValue) (read : old ≡ get_or spaces k old) (name : new.name ≡ old.name) where
  pub read-at : (d : SpaceValue) → old ≡ get_or spaces k d
  read-at d = read ∙ get_or_default spaces k old d within

  pub names-same : map (λ x. x.name) (set spaces k new) ≡ map (λ x. x.name) spaces
  names-same = map-set_same (λ x. x.name) spaces k new old (name ∙ ap (λ x. x.name) read)

  pub get-other : (j : ℕ) → j ≢ k → slice_get (set spaces k new) j ≡ slice_get spaces j
  get-other j ne = elim (cases_lt j (length spaces)) [
    | inl lt ↦
        slice_get-get_or (set spaces k new) j old (subst (λ n. j < n) (sym (length-set spaces k new)) lt)
        ∙ ap Some (get_or-set_other spaces k j new old ne) ∙ sym (slice_get-get_or spaces j old lt)
    | inr ge ↦ slice_get_past (set spaces k new) j (subst (λ n. n ≤ j) (sym (length-set spaces k new)) ge) ∙ sym (slice_get_past spaces j ge)
  ]

  pub get-here : slice_get (set spaces k new) k ≡ Some new
  get-here = slice_get-get_or (set spaces k new) k old (subst (λ n. k < n) (sym (length-set spaces k new)) within) ∙ ap Some (get_or-set_same spaces k new old within)

  pub got-here : slice_get spaces k ≡ Some old
  got-here = slice_get-get_or spaces k old within ∙ ap Some (sym read)

  pub name-at : (j : ℕ) → name_at (set spaces k new) j ≡ name_at spaces j
  name-at j = elim (cases_eq j k) [
    | inl e ↦
        ap (name_at (set spaces k new)) e ∙ ap (option_map (λ x. x.name)) get-here ∙ ap Some name ∙ sym (ap (option_map (λ x. x.name)) got-here) ∙ ap (name_at spaces) (sym e)
    | inr ne ↦ ap (option_map (λ x. x.name)) (get-other j ne)
  ]

  known-at : (b : ℕ) → slice_index old.known b ≤ slice_index new.known b → (j : ℕ) → known_at spaces j b ≤ known_at (set spaces k new) j b
  known-at b le j = elim (cases_eq j k) [
    | inl e ↦
        let o : known_at spaces j b ≡ slice_index old.known b = ap (λ i. known_at spaces i b) e ∙ ap (λ x. option_map_or (λ y. slice_index y.known b) x 0) got-here in
        let n : known_at (set spaces k new) j b ≡ slice_index new.known b = ap (λ i. known_at (set spaces k new) i b) e ∙ ap (λ x. option_map_or (λ y. slice_index y.known b) x 0) get-here in
        omega arith
    | inr ne ↦
        let n : known_at (set spaces k new) j b ≡ known_at spaces j b = ap (λ x. option_map_or (λ y. slice_index y.known b) x 0) (get-other j ne) in
        omega arith
  ]

  pub placed-then : (fanout size : ℕ) (st : Stage) → slice_index old.known 0 ≤ slice_index new.known 0 → AtPlace fanout size spaces st → AtPlace fanout size (set spaces k new) st
  placed-then fanout size (stage.Rising from to asks) le h = h
  placed-then fanout size (stage.Arrived asks) le h = h
  placed-then fanout size (stage.Joined space work) le h = subst (λ n. space < n) (sym (length-set spaces k new)) h
  placed-then fanout size (stage.Landed space number work) le h =
      let l = known-at 0 le space in
      let below = h.1 in
      (subst (λ n. space < n) (sym (length-set spaces k new)) h.0, omega arith)
  placed-then fanout size (stage.Falling from to given) le h = h
  placed-then fanout size (stage.Ended given) le h = tt
  placed-then fanout size (stage.Returning from to space asked) le h = (h.0, h.1, h.2, subst (λ n. space < n) (sym (length-set spaces k new)) h.3)
  placed-then fanout size (stage.Parked space asked) le h = subst (λ n. space < n) (sym (length-set spaces k new)) h
  placed-then fanout size (stage.Held number given) le h = tt

  -- rows at their places stay there when a namespace's brokers have heard more
  pub rows-placed : slice_index old.known 0 ≤ slice_index new.known 0 → (fanout size : ℕ) (rows : List Row) → ArePlaced fanout size spaces rows → ArePlaced fanout size (set spaces k new) rows
  rows-placed le fanout size rows all j d l = let p = all j d l in record { home = p.home; place = placed-then fanout size (get_or rows j d).stage le p.place }

  -- the announcements on the way to a broker, after one has come
  pub fewer-news : (to : ℕ) → length (link_at new.links to) < length (link_at old.links to) → news (set spaces k new) to < news spaces to
  fewer-news to less =
      let n = sum_by-set (λ x. length (link_at x.links to)) spaces k new old within in
      let o : ◌≡◌ {A = ℕ} (length (link_at old.links to)) (length (link_at (get_or spaces k old).links to)) = ap (λ x. length (link_at x.links to)) read in
      omega arith

module _ {v : KeysValue} (s : IsSound v) (k : ℕ) (within : k < length v.spaces) (old new : SpaceValue) (read : old ≡ get_or v.spaces k old) (name : new.name ≡ old.name) where
  -- as many are live as before, or one less
  pub kept-room : new.removed ≡ old.removed → live_in (set v.spaces k new) ≤ most_live
  kept-room same =
      let n = set-count (λ x. not x.removed) v.spaces k new old within in
      let o : ◌≡◌ {A = ℕ} (cond (not (get_or v.spaces k old).removed) 1 0) (cond (not new.removed) 1 0) = ap (λ x. cond (not x.removed) 1 0) (sym read) ∙ ap (λ b. cond (not b) 1 0) (sym same) in
      let r = s.room in
      omega arith

  pub gone-room : new.removed ≡ true → live_in (set v.spaces k new) ≤ most_live
  gone-room gone =
      let n = set-count (λ x. not x.removed) v.spaces k new old within in
      let o : ◌≡◌ {A = ℕ} (cond (not new.removed) 1 0) 0 = ap (λ b. cond (not b) 1 0) gone in
      let r = s.room in
      omega arith

  pub respaced-sound : live_in (set v.spaces k new) ≤ most_live → length new.known ≡ v.size → IsSoundSpace v.fanout v.grant new → (rows : List Row) → ArePlaced v.fanout v.size (set v.spaces k new) rows → (spent : Bool)
      → IsSound (record { spent = spent; size = v.size; fanout = v.fanout; grant = v.grant; spaces = set v.spaces k new; rows = rows })
  respaced-sound room long sound rows placed spent = record {
    fanout = s.fanout;
    size = s.size;
    brokers = set-all (λ x. length x.known ≡ v.size) v.spaces k new long (λ j d l ne. s.brokers j d l);
    spaces = set-all (IsSoundSpace v.fanout v.grant) v.spaces k new sound (λ j d l ne. s.spaces j d l);
    few = subst (λ n. n < 2 ^ 32) (sym (length-set v.spaces k new)) s.few;
    room = room;
    first = name-at v.spaces k within old new read name 0 ∙ s.first;
    apart = apart-then;
    placed = placed;
  } where
    same : (j : ℕ) (d : SpaceValue) → j < length v.spaces → (get_or (set v.spaces k new) j d).name ≡ (get_or v.spaces j d).name
    same = set-kept (λ x. x.name) v.spaces k new (λ d. name ∙ ap (λ x. x.name) (read-at v.spaces k within old new read name d))

    apart-then : AllPairs (λ one other. one.name ≢ other.name) (set v.spaces k new)
    apart-then i j d lt l e =
        let lj = subst (λ n. j < n) (length-set v.spaces k new) l in
        s.apart i j d lt lj (sym (same i d (omega arith)) ∙ e ∙ same j d lj)

-- what is said of a namespace reads neither its stores nor its links
pub alike : {set₀ : Setting} {log : Log} {size : ℕ} {s : SpaceValue} → SpaceAgrees set₀ log size s → (new : SpaceValue) → new.name ≡ s.name → new.removed ≡ s.removed → new.history ≡ s.history → new.known ≡ s.known → new.merger ≡ s.merger → SpaceAgrees set₀ log size new
alike {set₀} {log} {size} {s} a new n r h k m = subst (SpaceAgrees set₀ log size) path base
  where
    base : SpaceAgrees set₀ log size (record { name = s.name; removed = s.removed; history = s.history; known = s.known; stores = new.stores; links = new.links; merger = s.merger })
    base = record { history = a.history; last = a.last; removed = a.removed; told = a.told; kinds = a.kinds; joining = a.joining; fresh = a.fresh }

    path : ◌≡◌ {A = SpaceValue} (record { name = s.name; removed = s.removed; history = s.history; known = s.known; stores = new.stores; links = new.links; merger = s.merger }) new
    path = λ j. record { name = sym n j; removed = sym r j; history = sym h j; known = sym k j; stores = new.stores; links = new.links; merger = sym m j }

pub set-twice : {A : Type 0} (xs : List A) (k : ℕ) (a b : A) → set (set xs k a) k b ≡ set xs k b
set-twice [] k a b = refl
set-twice (x ∷ xs) zero a b = refl
set-twice (x ∷ xs) (suc k) a b = ap (λ ys. x ∷ ys) (set-twice xs k a b)
