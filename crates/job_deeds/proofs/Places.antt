-- The place of a job by its id.
use Rattle.std.proofs.Common.{◌≡◌, ◌≢◌, ℕ, suc, zero, ◌+◌, ◌<◌, ◌≤◌, ltb, Bool, true, false, cond, inl, inr, List, [], ◌∷◌, ◌++◌, length, get_or, take, drop, Some, None, refl, sym, ap, ◌∙◌, subst, arith}
use Rattle.std.specs.List.{AllByRecursion as Each}
use Rattle.std.specs.List.Sorted.{IsStrictlyIncreasing}
use Rattle.std.proofs.lemmas.Bool.{cases_lt, eq-eqb, ne_eqb, lt-ltb, le-ltb}
use Rattle.std.proofs.lemmas.List.{get_or-map, length-map}
use Rattle.std.proofs.lemmas.List.Kept.{AllPairs-from_increasing}
use Rattle.std.specs.Prelude.{Contains, map}
use Rattle.graph_match.proofs.Holds.{RiseFrom, rise_of}
use Rattle.job_rules.proofs.Among.{Among, among_from, among_map, among_mapped, contains_from}
use Rattle.manager_rules.specs.Dependencies.{job_at}
use Rattle.manager_rules.specs.Jobs.{StoredJob, ids_of}
use Rattle.manager_rules.specs.Posts.{with_job}

-- where a partition point is by what rises
pub rise_by : {A : Type 0} (f : A → ℕ) (xs : List A) → IsStrictlyIncreasing (map f xs) → (i j : ℕ) (d : A) → i ≤ j → j < length xs → f (get_or xs i d) ≤ f (get_or xs j d)
rise_by f xs r i j d h w = elim (cases_lt i j) [
  | inl below ↦
      let pair : get_or (map f xs) i 0 < get_or (map f xs) j 0 = AllPairs-from_increasing (map f xs) r i j 0 below (subst (λ n. j < n) (sym (length-map xs f)) w) in
      let a : get_or (map f xs) i 0 ≡ f (get_or xs i d) = get_or-map f xs i d 0 (omega arith) in
      let b : get_or (map f xs) j 0 ≡ f (get_or xs j d) = get_or-map f xs j d 0 w in
      omega (arith, pair, a, b)
  | inr above ↦ let same : i ≡ j = omega (arith, above, h) in subst (λ k. f (get_or xs i d) ≤ f (get_or xs k d)) same (omega arith)
]

pub ids_rise : (jobs : List StoredJob) → IsStrictlyIncreasing (ids_of jobs) → (i j : ℕ) (d : StoredJob) → i ≤ j → j < length jobs → (get_or jobs i d).id ≤ (get_or jobs j d).id
ids_rise = rise_by (λ j. j.id)

module _ {A : Type 0} where
  pub each_before : (P : A → Type 0) (at : ℕ) (jobs : List A) → at ≤ length jobs → ((k : ℕ) (d : A) → k < at → P (get_or jobs k d)) → Each P (take at jobs)
  each_before P zero jobs h f = tt
  each_before P (suc at) [] h f = tt
  each_before P (suc at) (x ∷ xs) h f = (f 0 x (omega arith), each_before P at xs (omega (arith, h)) (λ k d w. f (suc k) d (omega (arith, w))))

  pub each_after : (P : A → Type 0) (at : ℕ) (jobs : List A) → ((k : ℕ) (d : A) → at ≤ k → k < length jobs → P (get_or jobs k d)) → Each P (drop at jobs)
  each_after P zero [] f = tt
  each_after P zero (x ∷ xs) f = (f 0 x (omega arith) (omega arith), each_after P zero xs (λ k d h w. f (suc k) d (omega arith) (omega (arith, w))))
  each_after P (suc at) [] f = tt
  each_after P (suc at) (x ∷ xs) f = each_after P at xs (λ k d h w. f (suc k) d (omega (arith, h)) (omega (arith, w)))

-- the job at the place of an id, or none
pub found_at : (jobs : List StoredJob) (id at : ℕ) (d : StoredJob) → Each (λ j. j.id < id) (take at jobs) → at < length jobs → (get_or jobs at d).id ≡ id → job_at jobs id ≡ Some (get_or jobs at d)
found_at [] id at d b h e = let no : ⊥ = omega (arith, h) in absurd no
found_at (x ∷ xs) id zero d b h e = ap (λ t. cond t (Some x) (job_at xs id)) (eq-eqb x.id id e)
found_at (x ∷ xs) id (suc at) d b h e =
    let other : x.id ≢ id = λ same. omega (arith, same, b.0) in
    ap (λ t. cond t (Some x) (job_at xs id)) (ne_eqb x.id id other) ∙ found_at xs id at d b.1 (omega (arith, h)) e

none_above : (n id : ℕ) (jobs : List StoredJob) → id < n → RiseFrom n (ids_of jobs) → job_at jobs id ≡ None
none_above n id [] h r = refl
none_above n id (x ∷ xs) h r =
    let other : x.id ≢ id = λ same. omega (arith, same, r.0, h) in
    ap (λ t. cond t (Some x) (job_at xs id)) (ne_eqb x.id id other) ∙ none_above (x.id + 1) id xs (omega (arith, r.0, h)) r.1

none_at : (n : ℕ) (jobs : List StoredJob) (id at : ℕ) → RiseFrom n (ids_of jobs) → Each (λ j. j.id < id) (take at jobs) → Each (λ j. id ≤ j.id) (drop at jobs) → ((d : StoredJob) → at < length jobs → (get_or jobs at d).id ≢ id) → job_at jobs id ≡ None
none_at n [] id at r b a f = refl
none_at n (x ∷ xs) id zero r b a f =
    let other : x.id ≢ id = f x (omega arith) in
    ap (λ t. cond t (Some x) (job_at xs id)) (ne_eqb x.id id other) ∙ none_above (x.id + 1) id xs (omega (arith, a.0)) r.1
none_at n (x ∷ xs) id (suc at) r b a f =
    let other : x.id ≢ id = λ same. omega (arith, same, b.0) in
    ap (λ t. cond t (Some x) (job_at xs id)) (ne_eqb x.id id other) ∙ none_at (x.id + 1) xs id at r.1 b.1 a (λ d h. f d (omega (arith, h)))

pub missing_at : (jobs : List StoredJob) (id at : ℕ) → IsStrictlyIncreasing (ids_of jobs) → Each (λ j. j.id < id) (take at jobs) → Each (λ j. id ≤ j.id) (drop at jobs) → ((d : StoredJob) → at < length jobs → (get_or jobs at d).id ≢ id) → job_at jobs id ≡ None
missing_at jobs id at rising b a f = none_at 0 jobs id at (rise_of 0 (ids_of jobs) (λ w. omega arith) rising) b a f

-- one job more
pub inserted : (j : StoredJob) (at : ℕ) (jobs : List StoredJob) → Each (λ k. k.id < j.id) (take at jobs) → Each (λ k. j.id ≤ k.id) (drop at jobs) → ((k : StoredJob) → Among k jobs → k.id ≢ j.id) → take at jobs ++ j ∷ drop at jobs ≡ with_job j jobs
inserted j zero [] b a new = refl
inserted j (suc at) [] b a new = refl
inserted j zero (x ∷ xs) b a new =
    let other : x.id ≢ j.id = new x (inl refl) in
    let below : j.id < x.id = omega (arith, a.0, other) in
    ap (λ t. cond t (j ∷ x ∷ xs) (x ∷ with_job j xs)) (sym (lt-ltb j.id x.id below))
inserted j (suc at) (x ∷ xs) b a new =
    ap (λ ks. x ∷ ks) (inserted j at xs b.1 a (λ y i. new y (inr i)))
    ∙ ap (λ t. cond t (j ∷ x ∷ xs) (x ∷ with_job j xs)) (sym (le-ltb j.id x.id (omega (arith, b.0))))

pub not_among : (id : ℕ) (jobs : List StoredJob) → (Contains (ids_of jobs) id → ⊥) → (k : StoredJob) → Among k jobs → k.id ≢ id
not_among id jobs new k i e = new (contains_from (ids_of jobs) id (subst (λ n. Among n (ids_of jobs)) e (among_mapped (λ j. j.id) jobs k i)))

pub rise_with : (n : ℕ) (j : StoredJob) (jobs : List StoredJob) → RiseFrom n (ids_of jobs) → n ≤ j.id → ((k : StoredJob) → Among k jobs → k.id ≢ j.id) → RiseFrom n (ids_of (with_job j jobs))
rise_with n j [] r h new = (h, tt)
rise_with n j (x ∷ xs) r h new = elim (cases_lt j.id x.id) [
  | inl below ↦ subst (λ b. RiseFrom n (ids_of (cond b (j ∷ x ∷ xs) (x ∷ with_job j xs)))) (sym (lt-ltb j.id x.id below)) (h, (omega (arith, below), r.1))
  | inr above ↦
      let other : x.id ≢ j.id = new x (inl refl) in
      let next : x.id + 1 ≤ j.id = omega (arith, above, other) in
      subst (λ b. RiseFrom n (ids_of (cond b (j ∷ x ∷ xs) (x ∷ with_job j xs)))) (sym (le-ltb j.id x.id above)) (r.0, rise_with (x.id + 1) j xs r.1 next (λ y i. new y (inr i)))
]

pub each_with : (P : StoredJob → Type 0) (j : StoredJob) (jobs : List StoredJob) → P j → Each P jobs → Each P (with_job j jobs)
each_with P j [] p all = (p, tt)
each_with P j (x ∷ xs) p all = at (ltb j.id x.id) (each_with P j xs p all.1)
  where
    at : (b : Bool) → Each P (with_job j xs) → Each P (cond b (j ∷ x ∷ xs) (x ∷ with_job j xs))
    at true more = (p, all)
    at false more = (all.0, more)

-- ---- the place of a job of the list

pub rise_among : (n : ℕ) (jobs : List StoredJob) → RiseFrom n (ids_of jobs) → (k : StoredJob) → Among k jobs → n ≤ k.id
rise_among n [] r k i = absurd i
rise_among n (x ∷ xs) r k i = elim i [
  | inl e ↦ omega (arith, r.0, ap (λ y. y.id) e)
  | inr more ↦ omega (arith, r.0, rise_among (x.id + 1) xs r.1 k more)
]

there_from : (n : ℕ) (jobs : List StoredJob) (id at : ℕ) → RiseFrom n (ids_of jobs) → (j : StoredJob) → Among j jobs → j.id ≡ id → Each (λ k. k.id < id) (take at jobs) → Each (λ k. id ≤ k.id) (drop at jobs) → (at < length jobs) × ((d : StoredJob) → (get_or jobs at d).id ≡ id)
there_from n [] id at r j i e b a = absurd i
there_from n (x ∷ xs) id zero r j i e b a = elim i [
  | inl same ↦ (omega arith, λ d. ap (λ y. y.id) same ∙ e)
  | inr more ↦ let none : ⊥ = omega (arith, a.0, e, rise_among (x.id + 1) xs r.1 j more) in absurd none
]
there_from n (x ∷ xs) id (suc at) r j i e b a = elim i [
  | inl same ↦ let none : ⊥ = omega (arith, b.0, ap (λ y. y.id) same, e) in absurd none
  | inr more ↦ let found = there_from (x.id + 1) xs id at r.1 j more e b.1 a in (omega (arith, found.0), found.1)
]

pub there : (jobs : List StoredJob) (id at : ℕ) → IsStrictlyIncreasing (ids_of jobs) → Contains (ids_of jobs) id → Each (λ k. k.id < id) (take at jobs) → Each (λ k. id ≤ k.id) (drop at jobs) → (at < length jobs) × ((d : StoredJob) → (get_or jobs at d).id ≡ id)
there jobs id at rising c b a =
    let hit = among_map (λ j. j.id) jobs id (among_from (ids_of jobs) id c) in
    there_from 0 jobs id at (rise_of 0 (ids_of jobs) (λ w. omega arith) rising) hit.0 hit.1 hit.2 b a
