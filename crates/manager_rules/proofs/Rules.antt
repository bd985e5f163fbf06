-- What the rows say together: one job that takes, units that stay while a child lives, ends at their seconds, dependencies in their order.
use Rattle.std.proofs.Common.{◌≡◌, ℕ, ◌<◌, ◌≤◌, ◌⊎◌, inl, inr, List, [], ◌∷◌, ◌++◌, Bool, true, false, cond, not, ◌&&◌, Option, Some, None, refl, sym, ap, ◌∙◌, subst, true≢false, arith}
use Rattle.std.specs.Prelude.{◌==◌, nat_le, Contains, IsSomeAnd, find, option_and_then, if◌then◌else◌}
use Rattle.std.specs.List.{AllByRecursion as Each}
use Rattle.std.specs.List.Sorted.{IsStrictlyIncreasing}
use Rattle.std.specs.Option.{option_map_or}
use Rattle.std.proofs.lemmas.Bool.{and_parts, cases_lt, eqb-true, leb-true}
use Rattle.job_rules.proofs.Among.{Among, among_filter, among_from, among_kept, among_left, among_right, contains_from, distinct_rising, each_at, each_from, same_image}
use Rattle.job_spec.specs.declared.spec.Depend.{Depend}
use Rattle.job_spec.specs.declared.spec.JobSpec.{JobSpec}
use Rattle.job_states.specs.declared.job.State.TheVariants as state
use Rattle.job_states.specs.Table.{is_state, made}
use Rattle.resource_set.specs.declared.node.Resources.{Resources}
use Rattle.shells.specs.declared.ends.Ending.{Ending}
use Rattle.shells.specs.declared.ends.Ending.TheVariants as ending
use Rattle.shells.specs.Endings.{ending_of}
use Rattle.manager_rules.specs.declared.asked.Asked.TheVariants.{Cancel, Raise, Urgency, Child}
use Rattle.manager_rules.specs.Deeds.{Deed, Validates, Adds, Removes, Loses, Depends, Restarts, Prioritizes, NeverFits, Takes, Starts, Finishes, Expires, Stops, Releases, Frees, Cleans, Carries, change_by}
use Rattle.manager_rules.specs.Dependencies.{IsHead, is_added, is_met, is_removed, open_needs}
use Rattle.manager_rules.specs.Due.{FindsNone, IsFirstFit, IsOver, LeavesReserved, MayDo, MayTake, Passes, is_in_time, status_at}
use Rattle.manager_rules.specs.Jobs.{StoredJob, ids_of, is_live}
use Rattle.manager_rules.specs.Scene.{Scene, has_living_child, has_shut_child}
use Rattle.manager_rules.specs.Times.{command_seconds, end_seconds, expiry_seconds, seconds_of}

-- ---- the head

pub first_is_one : (jobs : List StoredJob) (a b : ℕ) → IsHead jobs a → IsHead jobs b → a ≡ b
first_is_one jobs a b mine other = by mine.0 other.0 (mine.3 b other.0 other.1) (other.3 a mine.0 mine.1)
  where
    by : (p q : ℕ) → (q < p) ⊎ ((q ≡ p) × (a ≤ b)) → (p < q) ⊎ ((p ≡ q) × (b ≤ a)) → a ≡ b
    by p q (inl x) (inl y) = let no : ⊥ = omega (arith, x, y) in absurd no
    by p q (inl x) (inr y) = let no : ⊥ = omega (arith, x, y.0) in absurd no
    by p q (inr x) (inl y) = let no : ⊥ = omega (arith, x.0, y) in absurd no
    by p q (inr x) (inr y) = omega (arith, x.1, y.1)

-- a job with a priority above 0 has one
rank_of : (o : Option ℕ) → IsSomeAnd o (λ p. 0 < p) → (p : ℕ) × (o ≡ Some p)
rank_of None h = absurd h
rank_of (Some p) h = (p, refl)

module _ (s : Scene) (rising : IsStrictlyIncreasing (ids_of s.jobs)) where
  pub same_job : (a b : StoredJob) → Contains s.jobs a → Contains s.jobs b → a.id ≡ b.id → a ≡ b
  same_job a b x y e = same_image (λ j. j.id) s.jobs a b (distinct_rising (ids_of s.jobs) rising) (among_from s.jobs a x) (among_from s.jobs b y) e

  -- the first finds units, or another one passes it, but not both
  not_both : (j k : StoredJob) (r q : Resources) → Contains s.jobs j → IsHead s.jobs j.id → IsFirstFit s j r → Passes s k q → ⊥
  not_both j k r q here first fit p =
      let same : p.head ≡ j = same_job p.head j p.known here (first_is_one s.jobs p.head.id j.id p.first first) in
      let none : FindsNone s j = subst (FindsNone s) same p.full in
      let both : Some r.nodes ≡ None = sym fit.nodes ∙ none in
      cc

  one_passes : (j k : StoredJob) (r q : Resources) → Contains s.jobs j → Contains s.jobs k → Passes s j r → Passes s k q → j.id ≡ k.id
  one_passes j k r q here there m n =
      let same : m.head ≡ n.head = same_job m.head n.head m.known n.known (first_is_one s.jobs m.head.id n.head.id m.first n.first) in
      let mine = rank_of j.job.priority m.leaves.ranked in
      let other = rank_of k.job.priority n.leaves.ranked in
      elim (cases_lt other.0 mine.0) [
        | inl below ↦ absurd (n.next j r here (mine.0, other.0, mine.1, other.1, inl below) (subst (λ h. LeavesReserved s h j r) same m.leaves))
        | inr up ↦ elim (cases_lt mine.0 other.0) [
          | inl above ↦ absurd (m.next k q there (other.0, mine.0, other.1, mine.1, inl above) (subst (λ h. LeavesReserved s h k q) (sym same) n.leaves))
          | inr down ↦
              let equal : mine.0 ≡ other.0 = omega (arith, up, down) in
              elim (cases_lt j.id k.id) [
                | inl less ↦ absurd (n.next j r here (mine.0, other.0, mine.1, other.1, inr (sym equal, less)) (subst (λ h. LeavesReserved s h j r) same m.leaves))
                | inr not_less ↦ elim (cases_lt k.id j.id) [
                  | inl more ↦ absurd (m.next k q there (other.0, mine.0, other.1, mine.1, inr (equal, more)) (subst (λ h. LeavesReserved s h k q) (sym same) n.leaves))
                  | inr not_more ↦ omega (arith, not_less, not_more)
                ]
              ]
        ]
      ]

  pub one_takes : (j k : StoredJob) (r q : Resources) → Contains s.jobs j → Contains s.jobs k → MayDo s j (Takes r) → MayDo s k (Takes q) → j.id ≡ k.id
  one_takes j k r q here there m n = by m.1 n.1
    where
      by : MayTake s j r → MayTake s k q → j.id ≡ k.id
      by (inl a) (inl b) = first_is_one s.jobs j.id k.id a b
      by (inl a) (inr b) = absurd (not_both j k r q here a m.2 b)
      by (inr a) (inl b) = absurd (not_both k j q r there b n.2 a)
      by (inr a) (inr b) = one_passes j k r q here there a b

-- ---- units

module _ (s : Scene) (j : StoredJob) (lives : has_living_child s.asked j.id ≡ true) (kept : j.job.released ≡ false) where
  stays : (deed : Deed) → MayDo s j deed → ((made (change_by deed) j.job).released ≡ false) × (is_live j.job ≡ true → is_live (made (change_by deed) j.job) ≡ true)
  stays Validates m = (kept, λ e. e)
  stays (Adds need) m = (kept, λ e. e)
  stays (Removes need) m = (kept, λ e. e)
  stays (Loses need) m = (kept, λ e. e)
  stays Depends m = (kept, λ e. e)
  stays (Prioritizes priority) m = (kept, λ e. e)
  stays Restarts m = (kept, λ e. e)
  stays NeverFits m = (kept, λ e. e)
  stays (Takes r) m = (kept, λ e. (and_parts j.job.allocated (not j.job.freed) e).1)
  stays Starts m = (kept, λ e. e)
  stays (Finishes status) m = (kept, λ e. e)
  stays Expires m = (kept, λ e. e)
  stays Stops m = (kept, λ e. e)
  stays Releases m = absurd (true≢false (sym lives ∙ m.3))
  stays Frees m = absurd (true≢false (sym m.1 ∙ kept))
  stays Cleans m = (kept, λ e. e)
  stays (Carries (Cancel by job)) m = (kept, λ e. e)
  stays (Carries (Raise by job kind severity note)) m = (kept, λ e. e)
  stays (Carries (Urgency by job urgency)) m = (kept, λ e. e)
  stays (Carries (Child job living shut)) m = absurd m.1

pub children_keep_units : (s : Scene) (j : StoredJob) (deed : Deed) → MayDo s j deed → has_living_child s.asked j.id ≡ true → j.job.released ≡ false
    → ((made (change_by deed) j.job).released ≡ false) × (is_live j.job ≡ true → is_live (made (change_by deed) j.job) ≡ true)
children_keep_units s j deed m lives kept = stays s j lives kept deed m

-- ---- ends

in_run : (j : StoredJob) → j.job.state ≡ state.Run → seconds_of j ≡ command_seconds j ++ option_map_or expiry_seconds j.r []
in_run j runs = ap (λ st. if is_state st state.Run then command_seconds j ++ option_map_or expiry_seconds j.r [] else []) runs

module _ (s : Scene) (id status : ℕ) (r : Option Resources) where
  ends_at : (e : Ending) → status_at s id r e ≡ Some status → (has_shut_child s.asked id ≡ true) ⊎ ((second : ℕ) × Among second (end_seconds e) × (second ≤ s.now))
  ends_at (ending.At second with_) is = by (nat_le second s.now) (is_in_time r second) refl is
    where
      by : (b c : Bool) → nat_le second s.now ≡ b → (if b && c then Some with_ else None) ≡ Some status → (has_shut_child s.asked id ≡ true) ⊎ ((at : ℕ) × Among at (second ∷ []) × (at ≤ s.now))
      by true true t is = inr (second, inl refl, leb-true second s.now t)
      by true false t is = cc
      by false c t is = cc
  ends_at ending.Child is = by (has_shut_child s.asked id) refl is
    where
      by : (b : Bool) → has_shut_child s.asked id ≡ b → (if b then Some 0 else None) ≡ Some status → (has_shut_child s.asked id ≡ true) ⊎ ((at : ℕ) × Among at [] × (at ≤ s.now))
      by true t is = inl t
      by false t is = cc

  ends_of : (spec : JobSpec) (start : Option ℕ) → option_and_then (λ second. status_at s id r (ending_of spec second)) start ≡ Some status
      → (has_shut_child s.asked id ≡ true) ⊎ ((at : ℕ) × Among at (option_map_or (λ second. end_seconds (ending_of spec second)) start []) × (at ≤ s.now))
  ends_of spec None is = cc
  ends_of spec (Some second) is = ends_at (ending_of spec second) is

pub finishes_then : (s : Scene) (j : StoredJob) (status : ℕ) → MayDo s j (Finishes status) → (has_shut_child s.asked j.id ≡ true) ⊎ ((second : ℕ) × Contains (seconds_of j) second × (second ≤ s.now))
finishes_then s j status m = elim (ends_of s j.id status j.r j.spec j.start m.2) [
  | inl shut ↦ inl shut
  | inr now ↦ inr (now.0, subst (λ xs. Contains xs now.0) (sym (in_run j m.0)) (contains_from (command_seconds j ++ option_map_or expiry_seconds j.r []) now.0 (among_left (command_seconds j) (option_map_or expiry_seconds j.r []) now.0 now.1)), now.2)
]

expires_of : (now : ℕ) (o : Option Resources) → IsSomeAnd o (IsOver now) → (second : ℕ) × Among second (option_map_or expiry_seconds o []) × (second ≤ now)
expires_of now None h = absurd h
expires_of now (Some r) h = by (r.expiration == 0) refl
  where
    by : (b : Bool) → (r.expiration == 0) ≡ b → (second : ℕ) × Among second (if b then [] else r.expiration ∷ []) × (second ≤ now)
    by true t = let zero = eqb-true r.expiration 0 t in let some = h.0 in let no : ⊥ = omega (arith, zero, some) in absurd no
    by false t = (r.expiration, inl refl, h.1)

pub expires_then : (s : Scene) (j : StoredJob) → MayDo s j Expires → (second : ℕ) × Contains (seconds_of j) second × (second ≤ s.now)
expires_then s j m =
    let e = expires_of s.now j.r m.3 in
    (e.0, subst (λ xs. Contains xs e.0) (sym (in_run j m.0)) (contains_from (command_seconds j ++ option_map_or expiry_seconds j.r []) e.0 (among_right (command_seconds j) (option_map_or expiry_seconds j.r []) e.0 e.1)), e.2)

-- ---- dependencies

module _ (p : Depend → Bool) where
  none_lacks : (xs : List Depend) → find (λ x. not (p x)) xs ≡ None → Each (λ x. p x ≡ true) xs
  none_lacks [] e = tt
  none_lacks (x ∷ xs) e = by (none_lacks xs) (p x) refl e
    where
      by : (find (λ x. not (p x)) xs ≡ None → Each (λ x. p x ≡ true) xs) → (b : Bool) → p x ≡ b → cond (not b) (Some x) (find (λ x. not (p x)) xs) ≡ None → (p x ≡ true) × Each (λ x. p x ≡ true) xs
      by more true t e = (t, more e)
      by more false t e = cc

  found_among : (xs : List Depend) (x : Depend) → find p xs ≡ Some x → Among x xs × (p x ≡ true)
  found_among [] x e = cc
  found_among (y ∷ ys) x e = by (found_among ys x) (p y) refl e
    where
      by : (find p ys ≡ Some x → Among x ys × (p x ≡ true)) → (b : Bool) → p y ≡ b → cond b (Some y) (find p ys) ≡ Some x → Among x (y ∷ ys) × (p x ≡ true)
      by more true t e = let same : y ≡ x = cc in (inl same, subst (λ z. p z ≡ true) same t)
      by more false t e = let m = more e in (inr m.0, m.1)

not_true : (b : Bool) → not b ≡ true → b ≡ false
not_true true e = sym e
not_true false e = refl

is_open : StoredJob → Depend → Bool
is_open j need = is_added j need && not (is_removed j need)

pub removed_once_met : (s : Scene) (j : StoredJob) (need : Depend) → MayDo s j (Removes need)
    → Each (λ n. is_added j n ≡ true) j.needs × Contains j.needs need × (is_removed j need ≡ false) × (is_met s.jobs need ≡ true)
unfolding is_open
removed_once_met s j need m =
    let found = found_among (is_met s.jobs) (open_needs j) need m.2 in
    let open_ = among_filter (is_open j) j.needs need found.0 in
    (none_lacks (is_added j) j.needs m.1, contains_from j.needs need open_.0, not_true (is_removed j need) (and_parts (is_added j need) (not (is_removed j need)) open_.1).1, found.1)

pub depends_once_removed : (s : Scene) (j : StoredJob) → MayDo s j Depends → Each (λ n. (is_added j n ≡ true) × (is_removed j n ≡ true)) j.needs
unfolding is_open
depends_once_removed s j m = each_from (λ n. (is_added j n ≡ true) × (is_removed j n ≡ true)) j.needs (λ n i. by n i (each_at (λ n. is_added j n ≡ true) j.needs n added i) (is_removed j n) refl)
  where
    added : Each (λ n. is_added j n ≡ true) j.needs
    added = none_lacks (is_added j) j.needs m.1

    by : (n : Depend) → Among n j.needs → is_added j n ≡ true → (b : Bool) → is_removed j n ≡ b → (is_added j n ≡ true) × (is_removed j n ≡ true)
    by n i a true t = (a, t)
    by n i a false t = absurd (subst (Among n) m.2 (among_kept (is_open j) j.needs n i (rw (a, t) refl)))
