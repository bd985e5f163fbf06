-- The greatest of the waiting jobs is the head of the queue.
use Rattle.std.proofs.Common.{◌≡◌, ℕ, ◌+◌, ◌<◌, ◌≤◌, ◌==◌, Bool, true, false, cond, ◌⊎◌, inl, inr, List, [], ◌∷◌, Option, Some, None, refl, sym, ap, ◌∙◌, subst, arith}
use Rattle.std.specs.Prelude.{Contains, if◌then◌else◌, option_map}
use Rattle.std.specs.List.{cons_option}
use Rattle.std.specs.List.Sorted.{IsStrictlyIncreasing}
use Rattle.std.specs.BTreeMap.{is_at}
use Rattle.std.specs.Ordering.{nat_cmp}
use Rattle.std.proofs.lemmas.Bool.Decides.{nat_tests}
use Rattle.job_rules.proofs.Among.{Among, contains_from}
use Rattle.job_queue.specs.Queue.{priority_of}
use Rattle.job_states.specs.Table.{is_state}
use Rattle.job_states.specs.declared.job.State.TheVariants as state
use Rattle.manager_rules.specs.Dependencies.{IsHead, queue_of, queued}
use Rattle.manager_rules.specs.Jobs.{StoredJob, ids_of}
use Rattle.graph_match.proofs.Holds.{RiseFrom, rise_of}
use Rattle.job_deeds.specs.Waiting.{waits_with}

-- what is said of the first
pub record IsMost (jobs : List StoredJob) (id p : ℕ) : Type 0 where
  pub j : StoredJob
  pub known : Among j jobs
  pub named : j.id ≡ id
  pub ranked : waits_with j ≡ p
  pub above : 0 < p
  pub most : (k : StoredJob) → Among k jobs → (waits_with k < p) ⊎ ((waits_with k ≡ p) × (id ≤ k.id))

same_key : (id other : ℕ) → is_at (nat_cmp id) other ≡ (id == other)
same_key id other = grind (arith, nat_tests)

-- a job that waits so
pub record Waits (j : StoredJob) (p : ℕ) : Type 0 where
  pub state : is_state j.job.state state.Sched ≡ true
  pub priority : j.job.priority ≡ Some p

pub waits_so : (j : StoredJob) (p : ℕ) → Waits j p → waits_with j ≡ p
waits_so j p w = rw (w.state, w.priority) refl

pub so_waits : (j : StoredJob) → 0 < waits_with j → Waits j (waits_with j)
so_waits j h = by (is_state j.job.state state.Sched) refl j.job.priority refl
  where
    by : (b : Bool) → is_state j.job.state state.Sched ≡ b → (o : Option ℕ) → j.job.priority ≡ o → Waits j (waits_with j)
    by true e (Some p) f = record { state = e; priority = f ∙ ap Some (sym (rw (e, f) refl)) }
    by true e None f = let none : waits_with j ≡ 0 = rw (e, f) refl in let no : ⊥ = omega (arith, none, h) in absurd no
    by false e o f = let none : waits_with j ≡ 0 = rw e refl in let no : ⊥ = omega (arith, none, h) in absurd no

queue_with : (j : StoredJob) (js : List StoredJob) → queue_of (j ∷ js) ≡ cons_option (queued j) (queue_of js)
queue_with j js = refl

-- what stands in the queue is a job that waits so
pub record InQueue (jobs : List StoredJob) (id p : ℕ) : Type 0 where
  pub j : StoredJob
  pub known : Among j jobs
  pub named : j.id ≡ id
  pub waits : Waits j p

pub in_queue : (jobs : List StoredJob) (id p : ℕ) → priority_of (queue_of jobs) id ≡ Some p → InQueue jobs id p
in_queue [] id p e = cc
in_queue (j ∷ js) id p e = by (in_queue js id p) (is_state j.job.state state.Sched) refl j.job.priority refl e
  where
    later : (priority_of (queue_of js) id ≡ Some p → InQueue js id p) → priority_of (queue_of js) id ≡ Some p → InQueue (j ∷ js) id p
    later more e = let k = more e in record { j = k.j; known = inr k.known; named = k.named; waits = k.waits }

    here : (priority_of (queue_of js) id ≡ Some p → InQueue js id p) → (q : ℕ) → Waits j q → (b : Bool) → is_at (nat_cmp id) j.id ≡ b → cond b (Some q) (priority_of (queue_of js) id) ≡ Some p → InQueue (j ∷ js) id p
    here more q w true t e =
        let same : q ≡ p = cc in
        let named : id ≡ j.id = grind (arith, nat_tests) in
        record { j = j; known = inl refl; named = sym named; waits = subst (Waits j) same w }
    here more q w false t e = later more e

    by : (priority_of (queue_of js) id ≡ Some p → InQueue js id p) → (b : Bool) → is_state j.job.state state.Sched ≡ b → (o : Option ℕ) → j.job.priority ≡ o → priority_of (cons_option (if b then option_map (λ q. (j.id, q)) o else None) (queue_of js)) id ≡ Some p → InQueue (j ∷ js) id p
    by more true s (Some q) f e = here more q (record { state = s; priority = f }) (is_at (nat_cmp id) j.id) refl e
    by more true s None f e = later more e
    by more false s o f e = later more e

pub queue_has : (n : ℕ) (jobs : List StoredJob) (j : StoredJob) (p : ℕ) → RiseFrom n (ids_of jobs) → Among j jobs → Waits j p → priority_of (queue_of jobs) j.id ≡ Some p
queue_has n [] j p r i w = absurd i
queue_has n (x ∷ xs) j p r i w = elim i [
  | inl e ↦ subst (λ y. priority_of (queue_of (x ∷ xs)) y.id ≡ Some p) e (first (subst (λ y. Waits y p) (sym e) w))
  | inr k ↦ skip (queued x) (λ q f. key q f) (above (x.id + 1) xs j r.1 k) (queue_has (x.id + 1) xs j p r.1 k w)
]
  where
    first : Waits x p → priority_of (queue_of (x ∷ xs)) x.id ≡ Some p
    first v = let t : is_at (nat_cmp x.id) x.id ≡ true = grind (arith, nat_tests) in rw (v.state, v.priority, t) refl

    above : (m : ℕ) (ys : List StoredJob) (y : StoredJob) → RiseFrom m (ids_of ys) → Among y ys → m ≤ y.id
    above m [] y r i = absurd i
    above m (z ∷ zs) y r i = elim i [
      | inl e ↦ omega (arith, r.0, ap (λ k. k.id) e)
      | inr k ↦ omega (arith, r.0, above (z.id + 1) zs y r.1 k)
    ]

    key : (q : ℕ × ℕ) → queued x ≡ Some q → q.0 ≡ x.id
    key q f = by (is_state x.job.state state.Sched) x.job.priority f
      where
        by : (b : Bool) (o : Option ℕ) → (if b then option_map (λ p. (x.id, p)) o else None) ≡ Some q → q.0 ≡ x.id
        by true (Some p) f = cc
        by true None f = cc
        by false o f = cc

    skip : (o : Option (ℕ × ℕ)) → ((q : ℕ × ℕ) → o ≡ Some q → q.0 ≡ x.id) → x.id + 1 ≤ j.id → priority_of (queue_of xs) j.id ≡ Some p → priority_of (cons_option o (queue_of xs)) j.id ≡ Some p
    skip None f h e = e
    skip (Some q) f h e =
        let name = f q refl in
        let t : is_at (nat_cmp j.id) q.0 ≡ false = grind (arith, nat_tests) in
        rw t e

pub head_some : (jobs : List StoredJob) (id p : ℕ) → IsStrictlyIncreasing (ids_of jobs) → IsMost jobs id p → IsHead jobs id
head_some jobs id p rising m =
    let waits = so_waits m.j (omega (arith, m.ranked, m.above)) in
    let here = queue_has 0 jobs m.j (waits_with m.j) (rise_of 0 (ids_of jobs) (λ w. omega arith) rising) m.known waits in (
      p,
      ap (priority_of (queue_of jobs)) (sym m.named) ∙ here ∙ ap Some m.ranked,
      m.above,
      λ other q e.
          let k = in_queue jobs other q e in
          let rank = waits_so k.j q k.waits in
          elim (m.most k.j k.known) [
            | inl less ↦ inl (omega (arith, less, rank))
            | inr same ↦ inr (sym rank ∙ same.0, omega (arith, same.1, k.named))
          ],
    )

pub head_none : (jobs : List StoredJob) → ((k : StoredJob) → Contains jobs k → waits_with k ≡ 0) → (id : ℕ) → IsHead jobs id → ⊥
head_none jobs none id h =
    let k = in_queue jobs id h.0 h.1 in
    omega (arith, none k.j (contains_from jobs k.j k.known), waits_so k.j h.0 k.waits, h.2)
