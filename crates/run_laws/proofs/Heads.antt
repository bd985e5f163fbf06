-- The first in the queue is a job that waits for resources.
use Rattle.std.proofs.Common.{◌≡◌, ℕ, Bool, true, false, cond, inl, inr, List, [], ◌∷◌, Option, Some, None, refl, sym, arith}
use Rattle.std.specs.Prelude.{if◌then◌else◌, option_map}
use Rattle.std.specs.List.{cons_option}
use Rattle.std.specs.BTreeMap.{is_at}
use Rattle.std.specs.Ordering.{nat_cmp}
use Rattle.std.proofs.lemmas.Bool.Decides.{nat_tests}
use Rattle.job_rules.proofs.Among.{Among}
use Rattle.job_queue.specs.Queue.{priority_of}
use Rattle.job_states.specs.Table.{is_state}
use Rattle.job_states.specs.declared.job.State.{State}
use Rattle.job_states.specs.declared.job.State.TheVariants as state
use Rattle.manager_rules.specs.Dependencies.{IsHead, queue_of}
use Rattle.manager_rules.specs.Jobs.{StoredJob}

-- a job of this id that waits
pub record IsWaiting (jobs : List StoredJob) (id : ℕ) : Type 0 where
  pub j : StoredJob
  pub known : Among j jobs
  pub named : j.id ≡ id
  pub waits : j.job.state ≡ state.Sched

is_sched : (st : State) → is_state st state.Sched ≡ true → st ≡ state.Sched
is_sched state.New h = cc
is_sched state.Depend h = cc
is_sched state.Priority h = cc
is_sched state.Sched h = refl
is_sched state.Run h = cc
is_sched state.Cleanup h = cc
is_sched state.Inactive h = cc

in_queue : (jobs : List StoredJob) (id p : ℕ) → priority_of (queue_of jobs) id ≡ Some p → IsWaiting jobs id
in_queue [] id p e = cc
in_queue (j ∷ js) id p e = by (in_queue js id p) (is_state j.job.state state.Sched) refl j.job.priority e
  where
    later : (priority_of (queue_of js) id ≡ Some p → IsWaiting js id) → priority_of (queue_of js) id ≡ Some p → IsWaiting (j ∷ js) id
    later more e = let k = more e in record { j = k.j; known = inr k.known; named = k.named; waits = k.waits }

    here : (priority_of (queue_of js) id ≡ Some p → IsWaiting js id) → (q : ℕ) → j.job.state ≡ state.Sched → (b : Bool) → is_at (nat_cmp id) j.id ≡ b → cond b (Some q) (priority_of (queue_of js) id) ≡ Some p → IsWaiting (j ∷ js) id
    here more q w true t e =
        let named : id ≡ j.id = grind (arith, nat_tests) in
        record { j = j; known = inl refl; named = sym named; waits = w }
    here more q w false t e = later more e

    by : (priority_of (queue_of js) id ≡ Some p → IsWaiting js id) → (b : Bool) → is_state j.job.state state.Sched ≡ b → (o : Option ℕ) → priority_of (cons_option (if b then option_map (λ q. (j.id, q)) o else None) (queue_of js)) id ≡ Some p → IsWaiting (j ∷ js) id
    by more true s (Some q) e = here more q (is_sched j.job.state s) (is_at (nat_cmp id) j.id) refl e
    by more true s None e = later more e
    by more false s o e = later more e

pub head_waits : (jobs : List StoredJob) (id : ℕ) → IsHead jobs id → IsWaiting jobs id
head_waits jobs id h = in_queue jobs id h.0 h.1
