-- What an event that has landed makes of its job, and of the units that are held.
use Rattle.std.specs.Prelude.{◌≡◌, ℕ, List, Option, Some, None, Result, Ok, Err, IfSome, if◌then◌else◌}
use Rattle.graph_match.specs.Allotment.{Allotment}
use Rattle.graph_match.specs.Holds.{IsNew, with_hold, without_hold}
use Rattle.job_rules.specs.Fits.{AreWithin, free_of}
use Rattle.job_states.specs.Changes.{change_of}
use Rattle.job_states.specs.Replay.{stepped}
use Rattle.job_states.specs.declared.job.Job.{Job}
use Rattle.resource_set.specs.Reading.{told}
use Rattle.resource_set.specs.declared.node.Resources.{Resources}
use Rattle.resource_set.specs.declared.faults.RFault.{RFault}
use Rattle.manager_rules.specs.declared.due.Due.{Due}
use Rattle.manager_rules.specs.Jobs.{StoredJob, is_live, started_by}
use Rattle.manager_rules.specs.Posts.{job_after}
use Rattle.job_deeds.specs.declared.landing.Held.{Held}
use Rattle.job_deeds.specs.declared.landing.Held.TheVariants.{AsBefore, Nothing, Given}
use Rattle.job_deeds.specs.declared.landing.Next.{Next}

-- the text tells resources
abbrev pub IsTold : List ℕ → Type 0
IsTold text = (r : Resources) × (told text ≡ Ok r)

-- the event may stand in the job's log, and the text that it gives tells resources
pub record CanLand (j : StoredJob) (due : Due) : Type 0 where
  pub next : Job
  pub steps : stepped 0 j.job due.event ≡ Ok next
  pub told : IfSome due.r IsTold

-- what the job of an event holds then
abbrev pub given_in : Result Resources RFault → Held
given_in (Ok r) = Given r
given_in (Err fault) = Nothing

abbrev pub given_by : Option (List ℕ) → Held
given_by None = AsBefore
given_by (Some text) = given_in (told text)

abbrev pub held_by : Due → Job → Held
held_by due job = if is_live job then given_by due.r else Nothing

-- what the event makes of the job
pub record IsNext (j : StoredJob) (due : Due) (next : Next) : Type 0 where
  pub job : next.job ≡ job_after (change_of due.event) j.job
  pub start : next.start ≡ started_by j.start due.event
  pub held : next.held ≡ held_by due next.job

abbrev pub held_with : Held → Option Resources → Option Resources
held_with AsBefore r = r
held_with Nothing r = None
held_with (Given new) r = Some new

-- the job that it is then
abbrev pub job_with : Next → StoredJob → StoredJob
job_with next j = record {
  id = j.id;
  spec = j.spec;
  needs = j.needs;
  job = next.job;
  start = next.start;
  r = held_with next.held j.r;
}

-- what is given is free, and the job holds nothing yet
abbrev pub CanHold : Allotment → ℕ → Held → Type 0
CanHold g id (Given r) = AreWithin r.nodes (free_of g.grant g.live) × IsNew id g.live
CanHold g id AsBefore = Unit {0}
CanHold g id Nothing = Unit {0}

-- the units that are held then
abbrev pub holding_with : Allotment → ℕ → Held → Allotment
holding_with g id AsBefore = g
holding_with g id Nothing = record g { live = without_hold id g.live }
holding_with g id (Given r) =
    record g { live = with_hold (record { id = id; nodes = r.nodes }) g.live }
