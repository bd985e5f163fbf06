-- Who passes the first in the queue, in the words of the crate that asks for reserved seconds.
use Rattle.std.proofs.Common.{◌≡◌, ◌≢◌, ℕ, suc, zero, ◌+◌, ◌<◌, ◌≤◌, ◌==◌, Bool, true, false, cond, ◌⊎◌, inl, inr, List, [], ◌∷◌, ◌++◌, length, get_or, take, map, Option, Some, None, Ok, refl, sym, ap, ◌∙◌, subst, append-nil, arith, true≢false}
use Rattle.std.specs.Prelude.{◌↔◌, ◌||◌, nat_lt, Contains, IsSomeAnd, IsTrue, filter, filter_map, option_and_then, option_map, if◌then◌else◌}
use Rattle.std.specs.List.{cons_option, AllByRecursion as Each}
use Rattle.std.specs.List.Sorted.{IsStrictlyIncreasing}
use Rattle.std.proofs.lemmas.Bool.{cases_lt, eq-eqb, eqb-true}
use Rattle.std.proofs.lemmas.List.{take_more}
use Rattle.std.proofs.lemmas.List.Elements.{filter_map-append}
use Rattle.hostlist.specs.Names.{AreHostNames}
use Rattle.resource_set.specs.declared.node.Node.{Node}
use Rattle.resource_set.specs.declared.node.Resources.{Resources}
use Rattle.resource_set.specs.Reading.{told}
use Rattle.resource_set.specs.Writing.{r_text}
use Rattle.job_rules.specs.declared.hold.Hold.{Hold as Held}
use Rattle.job_rules.specs.Fits.{CanFit, free_of, nodes_of}
use Rattle.job_rules.proofs.Among.{Among, among_append, among_flat, among_flattened, among_from, among_left, among_map, among_mapped, among_right, distinct_rising, same_image}
use Rattle.job_rules.proofs.Unique.{more_free}
use Rattle.job_spec.specs.declared.spec.JobSpec.{JobSpec}
use Rattle.manager_rules.specs.Due.{held_with, with_r}
use Rattle.manager_rules.specs.Jobs.{StoredJob, ids_of}
use Rattle.manager_rules.specs.Reserved as rules
use Rattle.manager_rules.specs.Sound.{holds_of}
use Rattle.backfill.specs.declared.hold.Hold.{Hold}
use Rattle.backfill.specs.Held.{held, held_at, is_held_at}
use Rattle.backfill.specs.Reserved.{FitsAt, IsReserved, KeepsReservation}
use Rattle.backfill.proofs.Holding.{nodes_both}
use Rattle.job_deeds.specs.Passing.{lease, leases_of}

-- ---- what some of a list give

module _ {A B : Type 0} (f : A → Option B) where
  pub among_picked : (xs : List A) (y : B) → Among y (filter_map f xs) → (x : A) × Among x xs × (f x ≡ Some y)
  among_picked [] y i = absurd i
  among_picked (x ∷ xs) y i = at (f x) refl (among_picked xs y) i
    where
      at : (o : Option B) → f x ≡ o → (Among y (filter_map f xs) → (k : A) × Among k xs × (f k ≡ Some y)) → Among y (cons_option o (filter_map f xs)) → (k : A) × Among k (x ∷ xs) × (f k ≡ Some y)
      at None e more i = let k = more i in (k.0, inr k.1, k.2)
      at (Some z) e more i = elim i [
        | inl same ↦ (x, inl refl, e ∙ ap Some same)
        | inr later ↦ let k = more later in (k.0, inr k.1, k.2)
      ]

  pub among_pick : (xs : List A) (x : A) (y : B) → Among x xs → f x ≡ Some y → Among y (filter_map f xs)
  among_pick [] x y i e = absurd i
  among_pick (z ∷ zs) x y i e = at (f z) refl i (among_pick zs x y)
    where
      at : (o : Option B) → f z ≡ o → Among x (z ∷ zs) → (Among x zs → f x ≡ Some y → Among y (filter_map f zs)) → Among y (cons_option o (filter_map f zs))
      at None g i more = elim i [
        | inl same ↦ let both : None ≡ Some y = sym g ∙ ap f same ∙ e in cc
        | inr later ↦ more later e
      ]
      at (Some w) g i more = elim i [
        | inl same ↦ let both : Some w ≡ Some y = sym g ∙ ap f same ∙ e in inl (cc)
        | inr later ↦ inr (more later e)
      ]

-- ---- what live jobs hold

abbrev leased : ℕ → Resources → Hold
leased id r = record { id = id; units = r; until = r.expiration }

abbrev kept : ℕ → Resources → Held
kept id r = record { id = id; nodes = r.nodes }

pub held_leases : (t : ℕ) (jobs : List StoredJob) → held_at t (leases_of jobs) ≡ rules.holds_at t jobs
held_leases t [] = refl
held_leases t (j ∷ js) = at j.r (held_leases t js)
  where
    one : (r : Resources) (b : Bool) → held_at t (leases_of js) ≡ rules.holds_at t js → map held (cond b (leased j.id r ∷ filter (is_held_at t) (leases_of js)) (filter (is_held_at t) (leases_of js))) ≡ cons_option (if b then Some (kept j.id r) else None) (rules.holds_at t js)
    one r true more = ap (λ hs. kept j.id r ∷ hs) more
    one r false more = more

    at : (o : Option Resources) → held_at t (leases_of js) ≡ rules.holds_at t js → held_at t (cons_option (option_map (leased j.id) o) (leases_of js)) ≡ cons_option (option_and_then (rules.held_by t j.id) o) (rules.holds_at t js)
    at None more = more
    at (Some r) more = one r (rules.is_held_at t r) more

pub held_all : (jobs : List StoredJob) → map held (leases_of jobs) ≡ holds_of jobs
held_all [] = refl
held_all (j ∷ js) = at j.r (held_all js)
  where
    at : (o : Option Resources) → map held (leases_of js) ≡ holds_of js → map held (cons_option (option_map (leased j.id) o) (leases_of js)) ≡ cons_option (option_map (kept j.id) o) (holds_of js)
    at None more = more
    at (Some r) more = ap (λ hs. kept j.id r ∷ hs) more

-- the leases of one job more
lease_one : (x : StoredJob) (o : Option Resources) → x.r ≡ o → leases_of (x ∷ []) ≡ cons_option (option_map (leased x.id) o) []
lease_one x o e = ap (λ r. cons_option (option_map (leased x.id) r) []) e

leases_more : (jobs : List StoredJob) (i : ℕ) (x : StoredJob) → i < length jobs → x ≡ get_or jobs i x → leases_of (take (i + 1) jobs) ≡ leases_of (take i jobs) ++ leases_of (x ∷ [])
leases_more jobs i x w e = ap leases_of (take_more jobs i x w ∙ ap (λ y. take i jobs ++ y ∷ []) (sym e)) ∙ filter_map-append lease (take i jobs) (x ∷ [])

same_lease : (hold : Hold) (id : ℕ) (r : Resources) → hold.id ≡ id → hold.units ≡ r → hold.until ≡ r.expiration → hold ≡ leased id r
same_lease hold id r i u e = ap (λ n. lease_with n hold.units hold.until) i ∙ ap (λ n. lease_with id n hold.until) u ∙ ap (λ n. lease_with id r n) e
  where
    lease_with : ℕ → Resources → ℕ → Hold
    lease_with n units until = record { id = n; units = units; until = until }

pub lease_next : (jobs : List StoredJob) (i : ℕ) (x : StoredJob) (live : List Hold) (hold : Hold) (r : Resources) → i < length jobs → x ≡ get_or jobs i x → live ≡ leases_of (take i jobs) → x.r ≡ Some r → hold.id ≡ x.id → hold.units ≡ r → hold.until ≡ r.expiration → live ++ hold ∷ [] ≡ leases_of (take (i + 1) jobs)
lease_next jobs i x live hold r w e so_far is id units until =
    ap (λ hs. hs ++ hold ∷ []) so_far ∙ ap (λ h. leases_of (take i jobs) ++ h ∷ []) (same_lease hold x.id r id units until)
    ∙ sym (leases_more jobs i x w e ∙ ap (λ hs. leases_of (take i jobs) ++ hs) (lease_one x (Some r) is))

pub lease_none : (jobs : List StoredJob) (i : ℕ) (x : StoredJob) (live : List Hold) → i < length jobs → x ≡ get_or jobs i x → live ≡ leases_of (take i jobs) → x.r ≡ None → live ≡ leases_of (take (i + 1) jobs)
lease_none jobs i x live w e so_far is =
    so_far ∙ sym (leases_more jobs i x w e ∙ ap (λ hs. leases_of (take i jobs) ++ hs) (lease_one x None is) ∙ append-nil (leases_of (take i jobs)))

-- ---- with one job more that holds units

module _ (jobs : List StoredJob) (rising : IsStrictlyIncreasing (ids_of jobs)) (j : StoredJob) (known : Among j jobs) (bare : j.r ≡ None) (hold : Hold) (ends : hold.until ≡ hold.units.expiration) (t : ℕ) where
  now_held : (b : Bool) → is_held_at t hold ≡ b → rules.is_held_at t hold.units ≡ b
  now_held b e = sym (ap (λ n. (n == 0) || nat_lt t n) ends) ∙ e

  nodes_beside : nodes_of (held_at t (leases_of jobs ++ hold ∷ [])) ≡ nodes_of (rules.holds_at t jobs) ++ nodes_of (held_at t (hold ∷ []))
  nodes_beside = nodes_both t (leases_of jobs) (hold ∷ []) ∙ ap (λ hs. nodes_of hs ++ nodes_of (held_at t (hold ∷ []))) (held_leases t jobs)

  its_own : (n : Node) → Among n hold.units.nodes → is_held_at t hold ≡ true → Among n (nodes_of (held_at t (hold ∷ [])))
  its_own n i e = subst (λ b. Among n (nodes_of (map held (cond b (hold ∷ []) [])))) (sym e) (among_left hold.units.nodes [] n i)

  own_its : (n : Node) → Among n (nodes_of (held_at t (hold ∷ []))) → Among n hold.units.nodes × (is_held_at t hold ≡ true)
  own_its n i = at (is_held_at t hold) refl i
    where
      at : (b : Bool) → is_held_at t hold ≡ b → Among n (nodes_of (map held (cond b (hold ∷ []) []))) → Among n hold.units.nodes × (is_held_at t hold ≡ true)
      at true e i = elim (among_append hold.units.nodes [] n i) [
        | inl here ↦ (here, e)
        | inr none ↦ absurd none
      ]
      at false e i = absurd i

  pub nodes_there : (n : Node) → Among n (nodes_of (rules.holds_at t (with_r j.id hold.units jobs))) → Among n (nodes_of (held_at t (leases_of jobs ++ hold ∷ [])))
  nodes_there n i = subst (Among n) (sym nodes_beside) (
      let part = among_flat (λ (h : Held). h.nodes) (rules.holds_at t (with_r j.id hold.units jobs)) n i in
      let from = among_picked (rules.hold_at t) (with_r j.id hold.units jobs) part.0 part.1 in
      let x = among_map (held_with j.id hold.units) jobs from.0 from.1 in
      at x.0 x.1 part.0 part.2 (x.0.id == j.id) (ap (rules.hold_at t) x.2 ∙ from.2))
    where
      both : List Node
      both = nodes_of (rules.holds_at t jobs) ++ nodes_of (held_at t (hold ∷ []))

      own : (id : ℕ) (h : Held) → Among n h.nodes → (b : Bool) → is_held_at t hold ≡ b → (if b then Some (kept id hold.units) else None) ≡ Some h → Among n both
      own id h k true e is = let same : kept id hold.units ≡ h = cc in
          among_right (nodes_of (rules.holds_at t jobs)) (nodes_of (held_at t (hold ∷ []))) n (its_own n (subst (λ (g : Held). Among n g.nodes) (sym same) k) e)
      own id h k false e is = cc

      at : (x : StoredJob) → Among x jobs → (h : Held) → Among n h.nodes → (b : Bool) → rules.hold_at t (if b then record x { r = Some hold.units } else x) ≡ Some h → Among n both
      at x i h k true is = own x.id h k (is_held_at t hold) refl (ap (λ b. if b then Some (kept x.id hold.units) else None) (sym (now_held (is_held_at t hold) refl)) ∙ is)
      at x i h k false is = among_left (nodes_of (rules.holds_at t jobs)) (nodes_of (held_at t (hold ∷ []))) n (among_flattened (λ (h : Held). h.nodes) (rules.holds_at t jobs) h n (among_pick (rules.hold_at t) jobs x h i is) k)

  pub nodes_back : (n : Node) → Among n (nodes_of (held_at t (leases_of jobs ++ hold ∷ []))) → Among n (nodes_of (rules.holds_at t (with_r j.id hold.units jobs)))
  nodes_back n i = elim (among_append (nodes_of (rules.holds_at t jobs)) (nodes_of (held_at t (hold ∷ []))) n (subst (Among n) nodes_beside i)) [
    | inl before ↦
        let part = among_flat (λ (h : Held). h.nodes) (rules.holds_at t jobs) n before in
        let from = among_picked (rules.hold_at t) jobs part.0 part.1 in
        other from.0 from.1 part.0 part.2 from.2 (from.0.id == j.id) refl
    | inr mine ↦ let own = own_its n mine in among (held_with j.id hold.units j) (kept j.id hold.units) (among_mapped (held_with j.id hold.units) jobs j known) own.0 (its own.1)
  ]
    where
      among : (x : StoredJob) (h : Held) → Among x (with_r j.id hold.units jobs) → Among n h.nodes → rules.hold_at t x ≡ Some h → Among n (nodes_of (rules.holds_at t (with_r j.id hold.units jobs)))
      among x h i k is = among_flattened (λ (h : Held). h.nodes) (rules.holds_at t (with_r j.id hold.units jobs)) h n (among_pick (rules.hold_at t) (with_r j.id hold.units jobs) x h i is) k

      its : is_held_at t hold ≡ true → rules.hold_at t (held_with j.id hold.units j) ≡ Some (kept j.id hold.units)
      its e =
          ap (λ b. rules.hold_at t (if b then record j { r = Some hold.units } else j)) (eq-eqb j.id j.id refl)
          ∙ ap (λ b. if b then Some (kept j.id hold.units) else None) (now_held true e)

      other : (x : StoredJob) → Among x jobs → (h : Held) → Among n h.nodes → rules.hold_at t x ≡ Some h → (b : Bool) → (x.id == j.id) ≡ b → Among n (nodes_of (rules.holds_at t (with_r j.id hold.units jobs)))
      other x i h k is true e =
          let same : x ≡ j = same_image (λ y. y.id) jobs x j (distinct_rising (ids_of jobs) rising) i known (eqb-true x.id j.id e) in
          let none : rules.hold_at t x ≡ None = ap (rules.hold_at t) same ∙ ap (λ o. option_and_then (rules.held_by t j.id) o) bare in
          let no : Some h ≡ None = sym is ∙ none in cc
      other x i h k is false e = among (held_with j.id hold.units x) h (among_mapped (held_with j.id hold.units) jobs x i) k (ap (λ b. rules.hold_at t (if b then record x { r = Some hold.units } else x)) e ∙ is)

-- ---- the second that is reserved

fits_as : (spec : JobSpec) (grant : List Node) (a b : List Held) → ((n : Node) → Among n (nodes_of b) → Among n (nodes_of a)) → CanFit spec grant (free_of grant a) → CanFit spec grant (free_of grant b)
fits_as spec grant a b sub can = record {
  nodes = can.nodes;
  set = can.set;
  inside = λ unit u. more_free grant (nodes_of b) (nodes_of a) sub unit (can.inside unit u);
  satisfied = can.satisfied;
}

module _ (spec : JobSpec) (grant : List Node) (now : ℕ) (jobs : List StoredJob) (live : List Hold) (to : (t : ℕ) → FitsAt spec grant live t → rules.FitsAt grant jobs spec t) (back : (t : ℕ) → rules.FitsAt grant jobs spec t → FitsAt spec grant live t) (second : ℕ) where
  reserved_to : IsReserved spec grant live now second → rules.IsReserved grant jobs spec now second
  reserved_to h = record { from = h.from; fits = to second h.fits; least = λ sooner a b f. h.least sooner a b (back sooner f) }

  reserved_back : rules.IsReserved grant jobs spec now second → IsReserved spec grant live now second
  reserved_back h = record { from = h.from; fits = back second h.fits; least = λ sooner a b f. h.least sooner a b (to sooner f) }

module _ (spec : JobSpec) (grant : List Node) (now : ℕ) (jobs : List StoredJob) (rising : IsStrictlyIncreasing (ids_of jobs)) (j : StoredJob) (known : Among j jobs) (bare : j.r ≡ None) (hold : Hold) (ends : hold.until ≡ hold.units.expiration) where
  alone_to : (t : ℕ) → FitsAt spec grant (leases_of jobs) t → rules.FitsAt grant jobs spec t
  alone_to t = subst (λ hs. CanFit spec grant (free_of grant hs)) (held_leases t jobs)

  alone_back : (t : ℕ) → rules.FitsAt grant jobs spec t → FitsAt spec grant (leases_of jobs) t
  alone_back t = subst (λ hs. CanFit spec grant (free_of grant hs)) (sym (held_leases t jobs))

  beside_to : (t : ℕ) → FitsAt spec grant (leases_of jobs ++ hold ∷ []) t → rules.FitsAt grant (with_r j.id hold.units jobs) spec t
  beside_to t = fits_as spec grant (held_at t (leases_of jobs ++ hold ∷ [])) (rules.holds_at t (with_r j.id hold.units jobs)) (nodes_there jobs rising j known bare hold ends t)

  beside_back : (t : ℕ) → rules.FitsAt grant (with_r j.id hold.units jobs) spec t → FitsAt spec grant (leases_of jobs ++ hold ∷ []) t
  beside_back t = fits_as spec grant (rules.holds_at t (with_r j.id hold.units jobs)) (held_at t (leases_of jobs ++ hold ∷ [])) (nodes_back jobs rising j known bare hold ends t)

  -- the second that is reserved, and stays so beside the hold
  pub keeps_there : KeepsReservation spec grant (leases_of jobs) hold now → (second : ℕ) × rules.IsReserved grant jobs spec now second × rules.IsReserved grant (with_r j.id hold.units jobs) spec now second
  keeps_there k = (
    k.second,
    reserved_to spec grant now jobs (leases_of jobs) alone_to alone_back k.second k.without,
    reserved_to spec grant now (with_r j.id hold.units jobs) (leases_of jobs ++ hold ∷ []) beside_to beside_back k.second k.beside,
  )

  pub keeps_back : (second : ℕ) → rules.IsReserved grant jobs spec now second → rules.IsReserved grant (with_r j.id hold.units jobs) spec now second → KeepsReservation spec grant (leases_of jobs) hold now
  keeps_back second a b = record {
    second = second;
    without = reserved_back spec grant now jobs (leases_of jobs) alone_to alone_back second a;
    beside = reserved_back spec grant now (with_r j.id hold.units jobs) (leases_of jobs ++ hold ∷ []) beside_to beside_back second b;
  }
