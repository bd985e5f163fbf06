-- The jobs that aren't over, and that the others have nothing to come.
use Rattle.std.proofs.Common.{◌≡◌, ◌≢◌, ℕ, suc, zero, ◌+◌, ◌<◌, ◌≤◌, ◌==◌, Bool, true, false, cond, not, inl, inr, List, [], ◌∷◌, ◌++◌, length, get_or, ltb, take, drop, Some, None, refl, sym, ap, ap₂, ◌∙◌, subst, arith, true≢false}
use Rattle.std.specs.Prelude.{◌⊎◌, ◌&&◌, All, Contains, filter, find, flat_map, option_map, if◌then◌else◌}
use Rattle.std.specs.List.{AllByRecursion as Each, insert, list_any}
use Rattle.std.specs.List.Sorted.{IsStrictlyIncreasing}
use Rattle.std.proofs.Math.ListN.{set}
use Rattle.std.proofs.lemmas.Bool.{cases_lt, eq-eqb, eqb-true, ne_eqb, lt-ltb, le-ltb}
use Rattle.std.proofs.lemmas.List.{get_or-map, get_or_default, length-map}
use Rattle.job_deeds.proofs.graph_match_proofs.Holds.{RiseFrom, rise_of, rises}
use Rattle.job_deeds.proofs.job_rules_proofs.Among.{Among, all_at, all_from, among_append, among_filter, among_from, among_kept, among_map, among_mapped, among_take, contains_from, distinct_rising, each_at, each_from, same_image}
use Rattle.job_deeds.specs.job_states.Table.{is_state}
use Rattle.job_deeds.specs.job_states.declared.job.State.{State}
use Rattle.job_deeds.specs.job_states.declared.job.State.TheVariants as state
use Rattle.job_deeds.specs.manager_rules.declared.asked.Asked.{Asked}
use Rattle.job_deeds.specs.manager_rules.declared.asked.Asked.TheVariants.{Cancel, Raise, Urgency, Child}
use Rattle.job_deeds.specs.manager_rules.declared.due.Due.{Due}
use Rattle.job_deeds.specs.manager_rules.Deeds.{Deed}
use Rattle.job_deeds.specs.manager_rules.Dependencies.{is_inactive}
use Rattle.job_deeds.specs.manager_rules.Due.{IsDue, MayCarry, MayDo}
use Rattle.job_deeds.specs.manager_rules.Jobs.{StoredJob, ids_of}
use Rattle.job_deeds.specs.manager_rules.Posts.{event_done, with_event, with_job}
use Rattle.job_deeds.specs.manager_rules.Scene.{Scene, has_child}
use Rattle.job_deeds.specs.manager_rules.Times.{seconds_of}
use Rattle.job_book.specs.Active.{AreActive, AreEntriesOf, IsEntryOf, active_of, follow_with, ids_in, is_active, is_to_bear, with_entry}
use Rattle.job_book.specs.declared.active.Active.{Active}
use Rattle.job_book.specs.Seconds.{is_bearing}
use Rattle.job_book.specs.Waking.{is_about}
use Rattle.job_deeds.proofs.Chosen.{chosen, none_due}
use Rattle.job_deeds.proofs.Rest.{none_inactive}

-- ---- their places

rise_later : (m n : ℕ) (jobs : List StoredJob) → m ≤ n → RiseFrom n (ids_of jobs) → RiseFrom m (ids_of jobs)
rise_later m n [] h r = tt
rise_later m n (x ∷ xs) h r = (omega (arith, r.0), r.1)

rise_filter : (p : StoredJob → Bool) (n : ℕ) (jobs : List StoredJob) → RiseFrom n (ids_of jobs) → RiseFrom n (ids_of (filter p jobs))
rise_filter p n [] r = tt
rise_filter p n (x ∷ xs) r = at (p x) (rise_filter p (x.id + 1) xs r.1)
  where
    at : (b : Bool) → RiseFrom (x.id + 1) (ids_of (filter p xs)) → RiseFrom n (ids_of (cond b (x ∷ filter p xs) (filter p xs)))
    at true more = (r.0, more)
    at false more = rise_later n (x.id + 1) (filter p xs) (omega (arith, r.0)) more

pub active_rise : (jobs : List StoredJob) (list : List Active) → IsStrictlyIncreasing (ids_of jobs) → AreActive jobs list → IsStrictlyIncreasing (ids_in list)
active_rise jobs list rising are = subst IsStrictlyIncreasing (sym are) (rises 0 (ids_of (active_of jobs)) (rise_filter is_active 0 jobs (rise_of 0 (ids_of jobs) (λ w. omega arith) rising)))

pub active_length : (jobs : List StoredJob) (list : List Active) → AreActive jobs list → length list ≡ length (active_of jobs)
active_length jobs list are = sym (length-map list (λ a. a.id)) ∙ ap length are ∙ length-map (active_of jobs) (λ j. j.id)

-- the id of one that isn't over is that of a job
among_active : (jobs : List StoredJob) (list : List Active) (a : Active) → AreActive jobs list → Among a list → Among a.id (ids_of jobs)
among_active jobs list a are i =
    let here : Among a.id (ids_of (active_of jobs)) = subst (λ ns. Among a.id ns) are (among_mapped (λ x. x.id) list a i) in
    let hit = among_map (λ j. j.id) (active_of jobs) a.id here in
    subst (λ n. Among n (ids_of jobs)) hit.2 (among_mapped (λ j. j.id) jobs hit.0 (among_filter is_active jobs hit.0 hit.1).0)

-- the id at a place is that of a job
pub active_known : (jobs : List StoredJob) (list : List Active) (i : ℕ) (a : Active) → AreActive jobs list → i < length list → Contains (ids_of jobs) (get_or list i a).id
active_known jobs list i a are w =
    let one = get_or list i a in
    contains_from (ids_of jobs) one.id (among_active jobs list one are (among_from list one (i, w, get_or_default list i one a w)))

-- the one at a place is that of the job at the place
pub same_id : (jobs : List StoredJob) (list : List Active) (i : ℕ) (a : Active) (d : StoredJob) → AreActive jobs list → i < length list → (get_or list i a).id ≡ (get_or (active_of jobs) i d).id
same_id jobs list i a d are w =
    let short : i < length (active_of jobs) = subst (λ n. i < n) (active_length jobs list are) w in
    sym (get_or-map (λ x. x.id) list i a 0 w) ∙ ap (λ ns. get_or ns i 0) are ∙ get_or-map (λ j. j.id) (active_of jobs) i d 0 short

-- a job of its id is the one
pub active_at : (jobs : List StoredJob) (list : List Active) (i at : ℕ) (a : Active) (d : StoredJob) → IsStrictlyIncreasing (ids_of jobs) → AreActive jobs list → i < length list → at < length jobs → (get_or jobs at d).id ≡ (get_or list i a).id → get_or jobs at d ≡ get_or (active_of jobs) i d
active_at jobs list i at a d rising are w within named =
    let short : i < length (active_of jobs) = subst (λ n. i < n) (active_length jobs list are) w in
    let mine : Among (get_or jobs at d) jobs = among_from jobs (get_or jobs at d) (at, within, get_or_default jobs at (get_or jobs at d) d within) in
    let other : Among (get_or (active_of jobs) i d) (active_of jobs) = among_from (active_of jobs) (get_or (active_of jobs) i d) (i, short, get_or_default (active_of jobs) i (get_or (active_of jobs) i d) d short) in
    same_image (λ j. j.id) jobs (get_or jobs at d) (get_or (active_of jobs) i d) (distinct_rising (ids_of jobs) rising) mine (among_filter is_active jobs (get_or (active_of jobs) i d) other).0
    (named ∙ same_id jobs list i a d are w)

-- ---- one more

placed_at : (id : ℕ) (j : StoredJob) (at : ℕ) (jobs : List StoredJob) → j.id ≡ id → Each (λ n. n < id) (take at (ids_of jobs)) → Each (λ n. id ≤ n) (drop at (ids_of jobs)) → take at (ids_of jobs) ++ id ∷ drop at (ids_of jobs) ≡ ids_of (with_job j jobs)
placed_at id j zero [] e b a = ap (λ n. n ∷ []) (sym e)
placed_at id j (suc at) [] e b a = ap (λ n. n ∷ []) (sym e)
placed_at id j zero (x ∷ xs) e b a = elim (cases_lt j.id x.id) [
  | inl below ↦ ap (λ n. n ∷ x.id ∷ ids_of xs) (sym e) ∙ ap (λ t. ids_of (cond t (j ∷ x ∷ xs) (x ∷ with_job j xs))) (sym (lt-ltb j.id x.id below))
  | inr above ↦
      let same : id ≡ x.id = omega (arith, e, above, a.0) in
      ap₂ (λ n ns. n ∷ ns) same (ap (λ n. n ∷ ids_of xs) (sym same) ∙ placed_at id j zero xs e tt a.1)
      ∙ ap (λ t. ids_of (cond t (j ∷ x ∷ xs) (x ∷ with_job j xs))) (sym (le-ltb j.id x.id above))
]
placed_at id j (suc at) (x ∷ xs) e b a =
    ap (λ ns. x.id ∷ ns) (placed_at id j at xs e b.1 a)
    ∙ ap (λ t. ids_of (cond t (j ∷ x ∷ xs) (x ∷ with_job j xs))) (sym (le-ltb j.id x.id (omega (arith, e, b.0))))

ids_inserted : (list : List Active) (at : ℕ) (a : Active) → ids_in (insert list at a) ≡ insert (ids_in list) at a.id
ids_inserted [] zero a = refl
ids_inserted [] (suc at) a = refl
ids_inserted (x ∷ xs) zero a = refl
ids_inserted (x ∷ xs) (suc at) a = ap (λ ns. x.id ∷ ns) (ids_inserted xs at a)

ids_taken : (P : ℕ → Type 0) (at : ℕ) (list : List Active) → Each (λ a. P a.id) (take at list) → Each P (take at (ids_in list))
ids_taken P zero list h = tt
ids_taken P (suc at) [] h = tt
ids_taken P (suc at) (x ∷ xs) h = (h.0, ids_taken P at xs h.1)

ids_dropped : (P : ℕ → Type 0) (at : ℕ) (list : List Active) → Each (λ a. P a.id) (drop at list) → Each P (drop at (ids_in list))
ids_dropped P zero [] h = tt
ids_dropped P zero (x ∷ xs) h = (h.0, ids_dropped P zero xs h.1)
ids_dropped P (suc at) [] h = tt
ids_dropped P (suc at) (x ∷ xs) h = ids_dropped P at xs h

pub placed : (list : List Active) (entry : Active) (at : ℕ) (jobs : List StoredJob) (j : StoredJob) → ids_in list ≡ ids_of jobs → j.id ≡ entry.id → Each (λ a. a.id < entry.id) (take at list) → Each (λ a. entry.id ≤ a.id) (drop at list) → ids_in (insert list at entry) ≡ ids_of (with_job j jobs)
placed list entry at jobs j is e b a =
    let id = entry.id in
    ids_inserted list at entry
    ∙ ap (λ ns. take at ns ++ id ∷ drop at ns) is
    ∙ placed_at id j at jobs e (subst (λ ns. Each (λ n. n < id) (take at ns)) is (ids_taken (λ n. n < id) at list b)) (subst (λ ns. Each (λ n. id ≤ n) (drop at ns)) is (ids_dropped (λ n. id ≤ n) at list a))

pub inserted_from : (list : List Active) (entry : Active) (at : ℕ) → All (λ a. (a ≡ entry) ⊎ Contains list a) (insert list at entry)
inserted_from list entry at = all_from (λ a. (a ≡ entry) ⊎ Contains list a) (insert list at entry) (λ a i. elim (among_append (take at list) (entry ∷ drop at list) a i) [
  | inl before ↦ inr (contains_from list a (among_take at list a before))
  | inr later ↦ elim later [
    | inl e ↦ inl (sym e)
    | inr behind ↦ inr (contains_from list a (among_drop at list a behind))
  ]
])
  where
    among_drop : (n : ℕ) (xs : List Active) (x : Active) → Among x (drop n xs) → Among x xs
    among_drop zero xs x i = i
    among_drop (suc n) [] x i = i
    among_drop (suc n) (y ∷ ys) x i = inr (among_drop n ys x i)

first_with : (j : StoredJob) (n : ℕ) (jobs : List StoredJob) → j.id < n → RiseFrom n (ids_of jobs) → with_job j jobs ≡ j ∷ jobs
first_with j n [] h r = refl
first_with j n (x ∷ xs) h r = ap (λ t. cond t (j ∷ x ∷ xs) (x ∷ with_job j xs)) (lt-ltb j.id x.id (omega (arith, h, r.0)))

filter_with : (p : StoredJob → Bool) (j : StoredJob) (n : ℕ) (jobs : List StoredJob) → RiseFrom n (ids_of jobs) → p j ≡ true → filter p (with_job j jobs) ≡ with_job j (filter p jobs)
filter_with p j n [] r t = ap (λ b. cond b (j ∷ []) []) t
filter_with p j n (x ∷ xs) r t = elim (cases_lt j.id x.id) [
  | inl below ↦
      ap (λ b. filter p (cond b (j ∷ x ∷ xs) (x ∷ with_job j xs))) (lt-ltb j.id x.id below)
      ∙ ap (λ b. cond b (j ∷ filter p (x ∷ xs)) (filter p (x ∷ xs))) t
      ∙ sym (first_with j (j.id + 1) (filter p (x ∷ xs)) (omega arith) (rise_filter p (j.id + 1) (x ∷ xs) (omega (arith, below), r.1)))
  | inr above ↦
      ap (λ b. filter p (cond b (j ∷ x ∷ xs) (x ∷ with_job j xs))) (le-ltb j.id x.id above)
      ∙ ap (λ ys. cond (p x) (x ∷ ys) ys) (filter_with p j (x.id + 1) xs r.1 t)
      ∙ at (p x) above
]
  where
    at : (b : Bool) → x.id ≤ j.id → cond b (x ∷ with_job j (filter p xs)) (with_job j (filter p xs)) ≡ with_job j (cond b (x ∷ filter p xs) (filter p xs))
    at true above = ap (λ b. cond b (j ∷ x ∷ filter p xs) (x ∷ with_job j (filter p xs))) (sym (le-ltb j.id x.id above))
    at false above = refl

pub active_with : (j : StoredJob) (jobs : List StoredJob) (old new : List Active) → IsStrictlyIncreasing (ids_of jobs) → AreActive jobs old → is_active j ≡ true → (ids_in old ≡ ids_of (active_of jobs) → ids_in new ≡ ids_of (with_job j (active_of jobs))) → AreActive (with_job j jobs) new
active_with j jobs old new rising are t entered = entered are ∙ ap ids_of (sym (filter_with is_active j 0 jobs (rise_of 0 (ids_of jobs) (λ w. omega arith) rising) t))

among_with : (j k : StoredJob) (jobs : List StoredJob) → Among k (with_job j jobs) → (j ≡ k) ⊎ Among k jobs
among_with j k [] i = i
among_with j k (x ∷ xs) i = at (ltb j.id x.id) (among_with j k xs) i
  where
    at : (b : Bool) → (Among k (with_job j xs) → (j ≡ k) ⊎ Among k xs) → Among k (cond b (j ∷ x ∷ xs) (x ∷ with_job j xs)) → (j ≡ k) ⊎ Among k (x ∷ xs)
    at true rest i = i
    at false rest (inl e) = inr (inl e)
    at false rest (inr more) = elim (rest more) [
      | inl e ↦ inl e
      | inr there ↦ inr (inr there)
    ]

pub entries_with : (j : StoredJob) (jobs : List StoredJob) (old new : List Active) (entry : Active) → AreActive jobs old → AreEntriesOf jobs old → (Contains (ids_of jobs) j.id → ⊥) → entry.id ≡ j.id → IsEntryOf j entry → All (λ a. (a ≡ entry) ⊎ Contains old a) new → AreEntriesOf (with_job j jobs) new
entries_with j jobs old new entry are entries none its is from = each_from P new (λ a i. by a (all_at (λ x. (x ≡ entry) ⊎ Contains old x) new a from i))
  where
    P : Active → Type 0
    P a = (k : StoredJob) → Contains (with_job j jobs) k → k.id ≡ a.id → IsEntryOf k a

    -- a job before has another id
    apart : (k : StoredJob) → Among k jobs → k.id ≡ j.id → ⊥
    apart k i e = none (contains_from (ids_of jobs) j.id (subst (λ n. Among n (ids_of jobs)) e (among_mapped (λ x. x.id) jobs k i)))

    of_new : P entry
    of_new k known named = elim (among_with j k jobs (among_from (with_job j jobs) k known)) [
      | inl e ↦ subst (λ x. IsEntryOf x entry) e is
      | inr there ↦ absurd (apart k there (named ∙ its))
    ]

    of_old : (a : Active) → Among a old → P a
    of_old a i k known named = elim (among_with j k jobs (among_from (with_job j jobs) k known)) [
      | inl e ↦ absurd (none (contains_from (ids_of jobs) j.id (subst (λ n. Among n (ids_of jobs)) (sym named ∙ ap (λ x. x.id) (sym e)) (among_active jobs old a are i))))
      | inr there ↦ each_at (λ x. (y : StoredJob) → Contains jobs y → y.id ≡ x.id → IsEntryOf y x) old a entries i k (contains_from jobs k there) named
    ]

    by : (a : Active) → (a ≡ entry) ⊎ Contains old a → P a
    by a (inl e) = subst P (sym e) of_new
    by a (inr c) = of_old a (among_from old a c)

-- ---- after an event

left_ids : (id : ℕ) (list : List Active) → ids_in (filter (λ a. not (a.id == id)) list) ≡ filter (λ n. not (n == id)) (ids_in list)
left_ids id [] = refl
left_ids id (x ∷ xs) = at (not (x.id == id)) (left_ids id xs)
  where
    at : (b : Bool) → ids_in (filter (λ a. not (a.id == id)) xs) ≡ filter (λ n. not (n == id)) (ids_in xs) → ids_in (cond b (x ∷ filter (λ a. not (a.id == id)) xs) (filter (λ a. not (a.id == id)) xs)) ≡ cond b (x.id ∷ filter (λ n. not (n == id)) (ids_in xs)) (filter (λ n. not (n == id)) (ids_in xs))
    at true more = ap (λ ns. x.id ∷ ns) more
    at false more = more

entry_ids : (entry : Active) (list : List Active) → ids_in (with_entry entry list) ≡ ids_in list
entry_ids entry [] = refl
entry_ids entry (x ∷ xs) = ap₂ (λ n ns. n ∷ ns) (at (x.id == entry.id) refl) (entry_ids entry xs)
  where
    at : (b : Bool) → (x.id == entry.id) ≡ b → (if b then entry else x).id ≡ x.id
    at true e = sym (eqb-true x.id entry.id e)
    at false e = refl

-- an entry in the place of that of its job
module _ (entry : Active) where
  as_it_is : (x : Active) → x.id ≢ entry.id → (if x.id == entry.id then entry else x) ≡ x
  as_it_is x other = ap (λ b. if b then entry else x) (ne_eqb x.id entry.id other)

  none_there : (n : ℕ) (list : List Active) → entry.id < n → RiseFrom n (ids_in list) → with_entry entry list ≡ list
  none_there n [] h r = refl
  none_there n (x ∷ xs) h r =
      let other : x.id ≢ entry.id = λ same. omega (arith, same, r.0, h) in
      ap₂ (λ y ys. y ∷ ys) (as_it_is x other) (none_there (x.id + 1) xs (omega (arith, r.0, h)) r.1)

  set_from : (n : ℕ) (list : List Active) (at : ℕ) (d : Active) → RiseFrom n (ids_in list) → Each (λ a. a.id < entry.id) (take at list) → at < length list → (get_or list at d).id ≡ entry.id → set list at entry ≡ with_entry entry list
  set_from n [] at d r b w e = let no : ⊥ = omega (arith, w) in absurd no
  set_from n (x ∷ xs) zero d r b w e =
      sym (ap₂ (λ y ys. y ∷ ys) (ap (λ t. if t then entry else x) (eq-eqb x.id entry.id e)) (none_there (x.id + 1) xs (omega (arith, e)) r.1))
  set_from n (x ∷ xs) (suc at) d r b w e =
      let other : x.id ≢ entry.id = λ same. omega (arith, same, b.0) in
      ap₂ (λ y ys. y ∷ ys) (sym (as_it_is x other)) (set_from (x.id + 1) xs at d r.1 b.1 (omega (arith, w)) e)

  left_from : (n : ℕ) (list : List Active) (at : ℕ) → RiseFrom n (ids_in list) → Each (λ a. a.id < entry.id) (take at list) → Each (λ a. entry.id ≤ a.id) (drop at list) → ((d : Active) → at < length list → (get_or list at d).id ≢ entry.id) → with_entry entry list ≡ list
  left_from n [] at r b a f = refl
  left_from n (x ∷ xs) zero r b a f =
      let other : x.id ≢ entry.id = f x (omega arith) in
      ap₂ (λ y ys. y ∷ ys) (as_it_is x other) (none_there (x.id + 1) xs (omega (arith, a.0, other)) r.1)
  left_from n (x ∷ xs) (suc at) r b a f =
      let other : x.id ≢ entry.id = λ same. omega (arith, same, b.0) in
      ap₂ (λ y ys. y ∷ ys) (as_it_is x other) (left_from (x.id + 1) xs at r.1 b.1 a (λ d h. f d (omega (arith, h))))

  pub set_there : (list : List Active) (at : ℕ) (d : Active) → IsStrictlyIncreasing (ids_in list) → Each (λ a. a.id < entry.id) (take at list) → at < length list → (get_or list at d).id ≡ entry.id → set list at entry ≡ with_entry entry list
  set_there list at d rising = set_from 0 list at d (rise_of 0 (ids_in list) (λ w. omega arith) rising)

  pub left_there : (list : List Active) (at : ℕ) → IsStrictlyIncreasing (ids_in list) → Each (λ a. a.id < entry.id) (take at list) → Each (λ a. entry.id ≤ a.id) (drop at list) → ((d : Active) → at < length list → (get_or list at d).id ≢ entry.id) → with_entry entry list ≡ list
  left_there list at rising = left_from 0 list at (rise_of 0 (ids_in list) (λ w. omega arith) rising)

module _ (due : Due) where
  -- the job of the event is as it should be afterwards
  own : List StoredJob → Bool → Type 0
  own jobs over = (k : StoredJob) → Among k jobs → k.id ≡ due.job → (is_active k ≡ true) × (is_inactive (event_done due k).job ≡ over)

  pub still_active : (jobs : List StoredJob) → ((k : StoredJob) → Among k jobs → k.id ≡ due.job → (is_active k ≡ true) × (is_inactive (event_done due k).job ≡ false)) → ids_of (active_of (with_event due jobs)) ≡ ids_of (active_of jobs)
  still_active [] own = refl
  still_active (x ∷ xs) own = at (x.id == due.job) refl (still_active xs (λ k i. own k (inr i)))
    where
      at : (b : Bool) → (x.id == due.job) ≡ b → ids_of (active_of (with_event due xs)) ≡ ids_of (active_of xs) → ids_of (filter is_active ((if b then event_done due x else x) ∷ with_event due xs)) ≡ ids_of (active_of (x ∷ xs))
      at true e more =
          let is = own x (inl refl) (eqb-true x.id due.job e) in
          ap (λ t. ids_of (cond (not t) (event_done due x ∷ active_of (with_event due xs)) (active_of (with_event due xs)))) is.1
          ∙ ap (λ ns. x.id ∷ ns) more
          ∙ ap (λ t. ids_of (cond t (x ∷ active_of xs) (active_of xs))) (sym is.0)
      at false e more = kept (is_active x)
        where
          kept : (t : Bool) → ids_of (cond t (x ∷ active_of (with_event due xs)) (active_of (with_event due xs))) ≡ ids_of (cond t (x ∷ active_of xs) (active_of xs))
          kept true = ap (λ ns. x.id ∷ ns) more
          kept false = more

  pub less_active : (jobs : List StoredJob) → ((k : StoredJob) → Among k jobs → k.id ≡ due.job → (is_active k ≡ true) × (is_inactive (event_done due k).job ≡ true)) → ids_of (active_of (with_event due jobs)) ≡ filter (λ other. not (other == due.job)) (ids_of (active_of jobs))
  less_active [] own = refl
  less_active (x ∷ xs) own = at (x.id == due.job) refl (less_active xs (λ k i. own k (inr i)))
    where
      p : ℕ → Bool
      p other = not (other == due.job)

      at : (b : Bool) → (x.id == due.job) ≡ b → ids_of (active_of (with_event due xs)) ≡ filter (λ other. not (other == due.job)) (ids_of (active_of xs)) → ids_of (filter is_active ((if b then event_done due x else x) ∷ with_event due xs)) ≡ filter (λ other. not (other == due.job)) (ids_of (active_of (x ∷ xs)))
      at true e more =
          let is = own x (inl refl) (eqb-true x.id due.job e) in
          ap (λ t. ids_of (cond (not t) (event_done due x ∷ active_of (with_event due xs)) (active_of (with_event due xs)))) is.1
          ∙ more
          ∙ ap (λ t. cond (not t) (x.id ∷ filter (λ other. not (other == due.job)) (ids_of (active_of xs))) (filter (λ other. not (other == due.job)) (ids_of (active_of xs)))) (sym e)
          ∙ ap (λ t. filter (λ other. not (other == due.job)) (ids_of (cond t (x ∷ active_of xs) (active_of xs)))) (sym is.0)
      at false e more = kept (is_active x)
        where
          kept : (t : Bool) → ids_of (cond t (x ∷ active_of (with_event due xs)) (active_of (with_event due xs))) ≡ filter (λ other. not (other == due.job)) (ids_of (cond t (x ∷ active_of xs) (active_of xs)))
          kept true =
              ap (λ ns. x.id ∷ ns) more
              ∙ ap (λ t. cond (not t) (x.id ∷ filter (λ other. not (other == due.job)) (ids_of (active_of xs))) (filter (λ other. not (other == due.job)) (ids_of (active_of xs)))) (sym e)
          kept false = more

  pub active_after : (jobs : List StoredJob) (old new : List Active) (entry : Active) (j : StoredJob) → entry.id ≡ due.job → AreActive jobs old → ((k : StoredJob) → Among k jobs → k.id ≡ due.job → j ≡ k) → is_active j ≡ true → new ≡ follow_with entry (is_inactive (event_done due j).job) old → AreActive (with_event due jobs) new
  active_after jobs old new entry j its are only t follows = by (is_inactive (event_done due j).job) refl follows
    where
      by : (b : Bool) → is_inactive (event_done due j).job ≡ b → new ≡ follow_with entry b old → AreActive (with_event due jobs) new
      by true e follows =
          ap ids_in follows ∙ left_ids entry.id old ∙ ap₂ (λ id ns. filter (λ other. not (other == id)) ns) its are
          ∙ sym (less_active jobs (λ k i same. subst (λ x. (is_active x ≡ true) × (is_inactive (event_done due x).job ≡ true)) (only k i same) (t, e)))
      by false e follows =
          ap ids_in follows ∙ entry_ids entry old ∙ are
          ∙ sym (still_active jobs (λ k i same. subst (λ x. (is_active x ≡ true) × (is_inactive (event_done due x).job ≡ false)) (only k i same) (t, e)))

  -- a job afterwards is the event's, or another one that was there
  abbrev Own : StoredJob → List StoredJob → Type 0
  Own k jobs = (x : StoredJob) × Among x jobs × (x.id ≡ due.job) × (event_done due x ≡ k)

  among_event : (k : StoredJob) (jobs : List StoredJob) → Among k (with_event due jobs) → Own k jobs ⊎ (Among k jobs × ((k.id == due.job) ≡ false))
  among_event k jobs i =
      let hit = among_map (λ x. if x.id == due.job then event_done due x else x) jobs k i in
      at hit.0 hit.1 (hit.0.id == due.job) refl hit.2
    where
      at : (x : StoredJob) → Among x jobs → (b : Bool) → (x.id == due.job) ≡ b → (if b then event_done due x else x) ≡ k → Own k jobs ⊎ (Among k jobs × ((k.id == due.job) ≡ false))
      at x i true e is = inl (x, i, eqb-true x.id due.job e, is)
      at x i false e is = inr (subst (λ y. Among y jobs × ((y.id == due.job) ≡ false)) is (i, e))

  pub entries_after : (jobs : List StoredJob) (old new : List Active) (entry : Active) (over : Bool) → entry.id ≡ due.job → AreEntriesOf jobs old → ((x : StoredJob) → Among x jobs → x.id ≡ due.job → IsEntryOf (event_done due x) entry) → new ≡ follow_with entry over old → AreEntriesOf (with_event due jobs) new
  entries_after jobs old new entry over its entries as_done is = subst (AreEntriesOf (with_event due jobs)) (sym is) (by over)
    where
      P : Active → Type 0
      P a = (k : StoredJob) → Contains (with_event due jobs) k → k.id ≡ a.id → IsEntryOf k a

      clash : (n : ℕ) → (n == due.job) ≡ false → n ≡ due.job → ⊥
      clash n e same = true≢false (sym (eq-eqb n due.job same) ∙ e)

      other : (a : Active) → Among a old → (a.id == entry.id) ≡ false → P a
      other a i e k known named = elim (among_event k jobs (among_from (with_event due jobs) k known)) [
        | inl hit ↦ absurd (clash a.id (ap (λ n. a.id == n) (sym its) ∙ e) (sym named ∙ ap (λ y. y.id) (sym hit.3) ∙ hit.2))
        | inr hit ↦ each_at (λ x. (y : StoredJob) → Contains jobs y → y.id ≡ x.id → IsEntryOf y x) old a entries i k (contains_from jobs k hit.0) named
      ]

      of_event : P entry
      of_event k known named = elim (among_event k jobs (among_from (with_event due jobs) k known)) [
        | inl hit ↦ subst (λ y. IsEntryOf y entry) hit.3 (as_done hit.0 hit.1 hit.2)
        | inr hit ↦ absurd (clash k.id hit.1 (named ∙ its))
      ]

      kept : (x : Active) → Among x old → not (x.id == entry.id) ≡ true → P x
      kept x i e = other x i (of (x.id == entry.id) e)
        where
          of : (b : Bool) → not b ≡ true → b ≡ false
          of true e = cc
          of false e = refl

      at : (x : Active) → Among x old → (b : Bool) → (x.id == entry.id) ≡ b → P (if b then entry else x)
      at x i true e = of_event
      at x i false e = other x i e

      by : (b : Bool) → AreEntriesOf (with_event due jobs) (follow_with entry b old)
      by true = each_from P (filter (λ a. not (a.id == entry.id)) old) (λ a i.
          let hit = among_filter (λ x. not (x.id == entry.id)) old a i in kept a hit.0 hit.1)
      by false = each_from P (with_entry entry old) (λ a i.
          let hit = among_map (λ x. if x.id == entry.id then entry else x) old a i in
          subst P hit.2 (at hit.0 hit.1 (hit.0.id == entry.id) refl))

-- ---- a job that is over

over_is : (st : State) → is_state st state.Inactive ≡ true → st ≡ state.Inactive
over_is state.New e = cc
over_is state.Depend e = cc
over_is state.Priority e = cc
over_is state.Sched e = cc
over_is state.Run e = cc
over_is state.Cleanup e = cc
over_is state.Inactive e = refl

uncarried : (j : StoredJob) → j.job.state ≡ state.Inactive → (asked : Asked) → MayCarry j asked → ⊥
uncarried j over (Cancel by job) may = let no = rw over at may.1 in true≢false (sym no)
uncarried j over (Raise by job kind severity note) may = let no = rw over at may.1 in true≢false (sym no)
uncarried j over (Urgency by job urgency) may = let no = rw over at may.1 in true≢false (sym no)
uncarried j over (Child job living shut) may = may

-- nothing is due for it
pub inert : (s : Scene) (j : StoredJob) → is_active j ≡ false → (deed : Deed) → MayDo s j deed → ⊥
inert s j e =
    let over = over_is j.job.state (of (is_inactive j.job) e) in
    chosen s j None (none_inactive s j over) (λ asked known may. uncarried j over asked may)
  where
    of : (b : Bool) → not b ≡ false → b ≡ true
    of true e = refl
    of false e = cc

pub due_active : (s : Scene) (j : StoredJob) (deed : Deed) → MayDo s j deed → is_active j ≡ true
due_active s j deed may = by (is_active j) refl
  where
    by : (b : Bool) → is_active j ≡ b → b ≡ true
    by true e = refl
    by false e = absurd (inert s j e deed may)

pub none_active_due : (s : Scene) → Each (λ j. (deed : Deed) → MayDo s j deed → ⊥) (active_of s.jobs) → (due : Due) → IsDue s due → ⊥
none_active_due s each = none_due s (each_from (λ j. (deed : Deed) → MayDo s j deed → ⊥) s.jobs (λ j i. by j i (is_active j) refl))
  where
    by : (j : StoredJob) → Among j s.jobs → (b : Bool) → is_active j ≡ b → (deed : Deed) → MayDo s j deed → ⊥
    by j i true e = each_at (λ j. (deed : Deed) → MayDo s j deed → ⊥) (active_of s.jobs) j each (among_kept is_active s.jobs j i e)
    by j i false e = inert s j e

-- nothing is due for one that sleeps
pub sleeps_at : (s : Scene) (jobs : List StoredJob) (list : List Active) (i : ℕ) (a : Active) (d : StoredJob) → AreActive jobs list → AreEntriesOf jobs list → i < length list → a ≡ get_or list i a → s.now < a.wake → list_any (is_about a.id) s.asked ≡ false → (deed : Deed) → MayDo s (get_or (active_of jobs) i d) deed → ⊥
sleeps_at s jobs list i a d are entries w is early quiet =
    let j = get_or (active_of jobs) i d in
    let short : i < length (active_of jobs) = subst (λ n. i < n) (active_length jobs list are) w in
    let there : Among j (active_of jobs) = among_from (active_of jobs) j (i, short, get_or_default (active_of jobs) i j d short) in
    let same : j.id ≡ a.id = sym (ap (λ x. x.id) is ∙ same_id jobs list i a d are w) in
    let entry = each_at (λ x. (y : StoredJob) → Contains jobs y → y.id ≡ x.id → IsEntryOf y x) list a entries (among_from list a (i, w, sym is)) j (contains_from jobs j (among_filter is_active jobs j there).0) same in
    entry.asleep s early (subst (λ n. list_any (is_about n) s.asked ≡ false) (sym same) quiet)

-- ---- what is found among those that aren't over

module _ (p : StoredJob → Bool) (only : (j : StoredJob) → is_active j ≡ false → p j ≡ false) where
  pub find_active : (jobs : List StoredJob) → find p (active_of jobs) ≡ find p jobs
  find_active [] = refl
  find_active (x ∷ xs) = at (is_active x) refl (find_active xs)
    where
      at : (b : Bool) → is_active x ≡ b → find p (active_of xs) ≡ find p xs → find p (cond b (x ∷ active_of xs) (active_of xs)) ≡ find p (x ∷ xs)
      at true e more = ap (λ o. cond (p x) (Some x) o) more
      at false e more = more ∙ ap (λ b. cond b (Some x) (find p xs)) (sym (only x e))

module _ {B : Type 0} (f : StoredJob → List B) (only : (j : StoredJob) → is_active j ≡ false → f j ≡ []) where
  pub flat_active : (jobs : List StoredJob) → flat_map f (active_of jobs) ≡ flat_map f jobs
  flat_active [] = refl
  flat_active (x ∷ xs) = at (is_active x) refl (flat_active xs)
    where
      at : (b : Bool) → is_active x ≡ b → flat_map f (active_of xs) ≡ flat_map f xs → flat_map f (cond b (x ∷ active_of xs) (active_of xs)) ≡ flat_map f (x ∷ xs)
      at true e more = ap (λ ys. f x ++ ys) more
      at false e more = more ∙ ap (λ ys. ys ++ flat_map f xs) (sym (only x e))

-- a job that is over runs no more
idle : (st : State) → not (is_state st state.Inactive) ≡ false → is_state st state.Run ≡ false
idle state.New e = cc
idle state.Depend e = cc
idle state.Priority e = cc
idle state.Sched e = cc
idle state.Run e = cc
idle state.Cleanup e = cc
idle state.Inactive e = refl

bears_not : (asked : List Asked) (j : StoredJob) → is_active j ≡ false → is_bearing asked j ≡ false
bears_not asked j e = rw (idle j.job.state e) refl

-- the first that is to bear a child is found among what is kept
pub first_to_bear : (asked : List Asked) (jobs : List StoredJob) (list : List Active) → AreActive jobs list → AreEntriesOf jobs list → option_map (λ a. a.id) (find (is_to_bear asked) list) ≡ option_map (λ j. j.id) (find (is_bearing asked) jobs)
first_to_bear asked jobs list are entries =
    go (active_of jobs) list are (λ j i. (among_filter is_active jobs j i).0) entries
    ∙ ap (option_map (λ j. j.id)) (find_active (is_bearing asked) (bears_not asked) jobs)
  where
    go : (ys : List StoredJob) (list : List Active) → ids_in list ≡ ids_of ys → ((j : StoredJob) → Among j ys → Among j jobs) → AreEntriesOf jobs list → option_map (λ a. a.id) (find (is_to_bear asked) list) ≡ option_map (λ j. j.id) (find (is_bearing asked) ys)
    go [] [] e sub each = refl
    go [] (a ∷ list) e sub each = cc
    go (y ∷ ys) [] e sub each = cc
    go (y ∷ ys) (a ∷ list) e sub each =
        let same : y.id ≡ a.id = cc in
        let more : ids_in list ≡ ids_of ys = cc in
        let entry = each.0 y (contains_from jobs y (sub y (inl refl))) same in
        let alike : is_to_bear asked a ≡ is_bearing asked y = ap₂ (λ p id. p && not (has_child asked id)) entry.parent (sym same) in
        ap (λ b. option_map (λ x. x.id) (cond b (Some a) (find (is_to_bear asked) list))) alike
        ∙ at (is_bearing asked y) (go ys list more (λ j i. sub j (inr i)) each.1) same
      where
        at : (b : Bool) → option_map (λ x. x.id) (find (is_to_bear asked) list) ≡ option_map (λ j. j.id) (find (is_bearing asked) ys) → y.id ≡ a.id → option_map (λ x. x.id) (cond b (Some a) (find (is_to_bear asked) list)) ≡ option_map (λ j. j.id) (cond b (Some y) (find (is_bearing asked) ys))
        at true rest same = ap Some (sym same)
        at false rest same = rest

pub ends_not : (j : StoredJob) → is_active j ≡ false → seconds_of j ≡ []
ends_not j e = rw (idle j.job.state e) refl
