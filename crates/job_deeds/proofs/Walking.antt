-- The walk over the jobs behind the first in the queue.
use Rattle.std.proofs.Common.{◌≡◌, ◌≢◌, ℕ, suc, zero, ◌+◌, ◌<◌, ◌≤◌, ◌⊎◌, inl, inr, List, [], ◌∷◌, length, get_or, take, Option, Some, None, refl, sym, ap, ◌∙◌, subst, arith}
use Rattle.std.specs.Prelude.{Contains, IsSomeAnd}
use Rattle.std.specs.List.{AllByRecursion as Each}
use Rattle.std.specs.List.Sorted.{IsStrictlyIncreasing}
use Rattle.job_rules.proofs.Among.{Among, among_from, contains_from, each_at, each_from}
use Rattle.job_states.specs.Table.{is_state}
use Rattle.job_states.specs.declared.job.State.TheVariants as state
use Rattle.graph_match.proofs.Holds.{RiseFrom, rise_of}
use Rattle.manager_rules.specs.Due.{IsBefore, LeavesReserved}
use Rattle.manager_rules.specs.Jobs.{StoredJob, ids_of}
use Rattle.manager_rules.specs.Scene.{Scene}
use Rattle.job_deeds.specs.Passing.{IsFirstLeaving, Leaves}
use Rattle.job_deeds.specs.Waiting.{waits_with}
use Rattle.job_deeds.proofs.Finding.{each_next}
use Rattle.job_deeds.proofs.Heads.{waits_so}

-- ---- one place further

among_up : (i : ℕ) (xs : List StoredJob) (j : StoredJob) → Among j (take i xs) → Among j (take (suc i) xs)
among_up zero xs j i = absurd i
among_up (suc n) [] j i = absurd i
among_up (suc n) (x ∷ xs) j i = elim i [
  | inl e ↦ inl e
  | inr more ↦ inr (among_up n xs j more)
]

among_at : (i : ℕ) (xs : List StoredJob) (x : StoredJob) → i < length xs → x ≡ get_or xs i x → Among x (take (suc i) xs)
among_at i [] x w e = let no : ⊥ = omega (arith, w) in absurd no
among_at zero (y ∷ ys) x w e = inl (sym e)
among_at (suc i) (y ∷ ys) x w e = inr (among_at i ys x (omega (arith, w)) e)

above_all : (n i : ℕ) (xs : List StoredJob) (x : StoredJob) → RiseFrom n (ids_of xs) → i < length xs → x ≡ get_or xs i x → n ≤ x.id
above_all n i [] x r w e = let no : ⊥ = omega (arith, w) in absurd no
above_all n zero (y ∷ ys) x r w e = omega (arith, r.0, ap (λ k. k.id) e)
above_all n (suc i) (y ∷ ys) x r w e = omega (arith, r.0, above_all (y.id + 1) i ys x r.1 (omega (arith, w)) e)

-- a job before the place has a lower id
below : (n i : ℕ) (xs : List StoredJob) (x j : StoredJob) → RiseFrom n (ids_of xs) → i < length xs → x ≡ get_or xs i x → Among j (take i xs) → j.id < x.id
below n zero xs x j r w e i = absurd i
below n (suc k) [] x j r w e i = absurd i
below n (suc k) (y ∷ ys) x j r w e i = elim i [
  | inl same ↦ omega (arith, above_all (y.id + 1) k ys x r.1 (omega (arith, w)) e, ap (λ z. z.id) same)
  | inr more ↦ below (y.id + 1) k ys x j r.1 (omega (arith, w)) e more
]

-- ---- ranks

-- a job with a priority that waits has it as its rank
rank_is : (s : Scene) (head j : StoredJob) (p : ℕ) → Leaves s head j → j.job.priority ≡ Some p → waits_with j ≡ p
rank_is s head j p l e = waits_so j p (record { state = ap (λ st. is_state st state.Sched) l.1.waits; priority = e })

some_rank : (o : Option ℕ) → IsSomeAnd o (λ p. 0 < p) → (p : ℕ) × (o ≡ Some p) × (0 < p)
some_rank None h = absurd h
some_rank (Some p) h = (p, refl, h)

pub ranked : (s : Scene) (head j : StoredJob) → Leaves s head j → 0 < waits_with j
ranked s head j l =
    let p = some_rank j.job.priority l.1.ranked in
    omega (arith, rank_is s head j p.0 l p.1, p.2)

module _ (s : Scene) (head : StoredJob) (jobs : List StoredJob) (rising : IsStrictlyIncreasing (ids_of jobs)) (i : ℕ) (x : StoredJob) (within : i < length jobs) (is : x ≡ get_or jobs i x) (most : ℕ) where
  at_next : (o : Option ℕ) (rank : ℕ) → IsFirstLeaving s head (take (suc i) jobs) rank o → IsFirstLeaving s head (take (i + 1) jobs) rank o
  at_next o rank h = let e : suc i ≡ i + 1 = omega arith in subst (λ k. IsFirstLeaving s head (take k jobs) rank o) e h

  each_suc : (P : StoredJob → Type 0) → Each P (take i jobs) → P x → Each P (take (suc i) jobs)
  each_suc P h p = let e : i + 1 ≡ suc i = omega arith in subst (λ k. Each P (take k jobs)) e (each_next P jobs i x h within is p)

  earlier : (j : StoredJob) → Contains (take i jobs) j → j.id < x.id
  earlier j c = below 0 i jobs x j (rise_of 0 (ids_of jobs) (λ w. omega arith) rising) within is (among_from (take i jobs) j c)

  still : (j : StoredJob) → Contains (take i jobs) j → Contains (take (suc i) jobs) j
  still j c = contains_from (take (suc i) jobs) j (among_up i jobs j (among_from (take i jobs) j c))

  -- the job at the place doesn't leave it
  pub not_leaving : (o : Option ℕ) → IsFirstLeaving s head (take i jobs) most o → (Leaves s head x → ⊥) → IsFirstLeaving s head (take (i + 1) jobs) most o
  not_leaving None h none = at_next None most (h.0, each_suc (λ k. Leaves s head k → ⊥) h.1 none)
  not_leaving (Some id) h none = at_next (Some id) most (h.0, still h.0 h.1, h.2, h.3, h.4, each_suc (λ k. IsBefore k h.0 → Leaves s head k → ⊥) h.5 (λ before l. none l))

  -- it isn't asked, since it doesn't go before the first that leaves it, or is the head
  pub not_asked : (o : Option ℕ) → IsFirstLeaving s head (take i jobs) most o → ((most < waits_with x) × (x.id ≢ head.id) → ⊥) → IsFirstLeaving s head (take (i + 1) jobs) most o
  not_asked None h not = at_next None most (h.0, each_suc (λ k. Leaves s head k → ⊥) h.1 (λ l. not (omega (arith, h.0, ranked s head x l), l.1.behind)))
  not_asked (Some id) h not = at_next (Some id) most (h.0, still h.0 h.1, h.2, h.3, h.4, each_suc (λ k. IsBefore k h.0 → Leaves s head k → ⊥) h.5 later)
    where
      later : IsBefore x h.0 → Leaves s head x → ⊥
      later b l =
          let mine = rank_is s head x b.0 l b.2 in
          let its = rank_is s head h.0 b.1 h.4 b.3 in
          elim b.4 [
            | inl above ↦ not (omega (arith, mine, its, h.3, above), l.1.behind)
            | inr same ↦ omega (arith, same.1, earlier h.0 h.1)
          ]

  -- it leaves it, and goes before those that do so far
  pub now_first : (o : Option ℕ) → IsFirstLeaving s head (take i jobs) most o → most < waits_with x → Leaves s head x → IsFirstLeaving s head (take (i + 1) jobs) (waits_with x) (Some x.id)
  now_first o h above l = at_next (Some x.id) (waits_with x) (x, contains_from (take (suc i) jobs) x (among_at i jobs x within is), refl, refl, l, each_suc (λ k. IsBefore k x → Leaves s head k → ⊥) (each_from (λ k. IsBefore k x → Leaves s head k → ⊥) (take i jobs) (λ k m. before o h k m)) itself)
    where
      some_same : (p q : ℕ) → Some p ≡ Some q → p ≡ q
      some_same p q e = cc

      itself : IsBefore x x → Leaves s head x → ⊥
      itself b l =
          let same = some_same b.0 b.1 (sym b.2 ∙ b.3) in
          elim b.4 [
            | inl less ↦ omega (arith, same, less)
            | inr less ↦ omega (arith, less.1)
          ]

      before : (o : Option ℕ) → IsFirstLeaving s head (take i jobs) most o → (k : StoredJob) → Among k (take i jobs) → IsBefore k x → Leaves s head k → ⊥
      before None h k m b leaves = each_at (λ y. Leaves s head y → ⊥) (take i jobs) k h.1 m leaves
      before (Some id) h k m b leaves =
          let mine = rank_is s head x b.1 l b.3 in
          let its = some_rank h.0.job.priority h.4.1.ranked in
          let rank = rank_is s head h.0 its.0 h.4 its.1 in
          let less : its.0 < b.0 = elim b.4 [
            | inl higher ↦ omega (arith, mine, rank, h.3, above, higher)
            | inr same ↦ omega (arith, mine, rank, h.3, above, same.0)
          ] in
          each_at (λ y. IsBefore y h.0 → Leaves s head y → ⊥) (take i jobs) k h.5 m (b.0, its.0, b.2, its.1, inl less) leaves
