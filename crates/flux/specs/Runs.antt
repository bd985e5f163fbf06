-- What a run promises.
use Rattle.std.specs.Prelude.{ℕ, ◌≤◌, List, Option, Some, None, Bool, ◌&&◌, count_by, not, is_some, nat_lt, if◌then◌else◌}
use Rattle.run_options.specs.declared.Options.{Options}
use Rattle.world.specs.workload.declared.work.Workload.{Workload}
use Rattle.world.specs.answers.Chronicle.{Setup}
use Rattle.world.specs.Choice.{is_loss}
use Rattle.world.specs.declared.order.Schedule.{Schedule}
use Rattle.world.specs.declared.order.Schedule.TheVariants as schedule
use Rattle.world.specs.hierarchy.Headline.{IsTrueRun}
use Rattle.world.specs.hierarchy.Promises.{KeepsItsPromises}
use Rattle.world.specs.hierarchy.Stretches.{AreRunStretches}
use Rattle.world.specs.homes.Grant.{first_resources, grant_text}
use Rattle.flux_commands.specs.declared.faults.Run.{Run}
use Rattle.flux_commands.specs.Asked.{IsSpelled}
use Rattle.flux_commands.specs.Sides.{Side}
use Rattle.world.specs.manager_rules.declared.policy.Policy.TheVariants.{Easy}
use Rattle.world.specs.manager_rules.declared.terms.Terms.{Terms}

-- several workers make the steps
abbrev pub has_several : Options → Bool
has_several o = nat_lt 1 o.workers

-- a run makes every step that can be made before the next command is issued, unless its words ask
-- for a drawn order or several workers
abbrev pub is_settled : Options → Bool
is_settled o = not (is_some o.shuffle) && not (has_several o)

-- the terms on which a run serves its jobs: with `--backfill` jobs may pass the first in the queue
abbrev pub terms_of : Terms → Options → Terms
terms_of terms o = if o.backfill then record terms { policy = Easy } else terms

-- what a run of the workload is given: its options, its grant and the terms on which its jobs are
-- served
abbrev pub setup_of : Terms → Options → Workload → Setup
setup_of terms o work = record {
  settled = is_settled o;
  size = o.size;
  fanout = o.fanout;
  hash = o.hash;
  grant = grant_text o.size work;
  resources = first_resources o.size work;
  base = None;
  terms = terms_of terms o;
  birth = 0;
  work = work;
}

-- the order in which one worker makes a run's steps, and how many of them may be losses: drawn
-- where there is a seed
abbrev pub order_alone : ℕ → Option ℕ → Schedule
order_alone losses None = schedule.Settled
order_alone losses (Some seed) = schedule.Shuffled seed losses

-- the order in which a run makes its steps: several workers draw none
abbrev pub schedule_of : Options → Schedule
schedule_of o = if has_several o then schedule.Lanes o.workers
    else order_alone o.losses o.shuffle

-- the chronicle of the workload keeps what a run promises; it is legal and whole, settled where
-- neither a drawn order nor several workers are asked for, the text prints it, and the steps made
-- tell the whole of it; no more of them lose, repeat or swap an announcement than the options allow
pub record IsRunOf (terms : Terms) (o : Options) (work : Workload)
    (run : Run) (text : List ℕ) : Type 0 where
  pub promises : KeepsItsPromises (setup_of terms o work) run.chronicle
  pub true_run : IsTrueRun (setup_of terms o work) (is_settled o) o.journal run.chronicle text
  pub stretches : AreRunStretches (setup_of terms o work) run.steps.items run.ends.items
      run.chronicle
  pub losses : count_by is_loss run.steps.items ≤ o.losses

-- the source was read to its end, its text is a workload's, and this is a run of that workload,
-- which the text prints
pub record HasRun (terms : Terms) (o : Options) (input : Side)
    (run : Run) (text : List ℕ) : Type 0 where
  pub work : Workload
  pub spelled_so : IsSpelled o.size input work
  pub ran : IsRunOf terms o work run text
