-- What a grant answers a job.
use Rattle.std.specs.Prelude.{◌≡◌, ℕ, List, Some, None}
use Rattle.job_spec.specs.declared.spec.JobSpec.{JobSpec}
use Rattle.resource_set.specs.declared.node.Node.{Node}
use Rattle.resource_set.specs.declared.node.Resources.{Resources}
use Rattle.job_rules.specs.declared.hold.Hold.{Hold}
use Rattle.job_rules.specs.Fits.{AreBlockers, AreWithin, NeverFits, end_of, first_fit, free_of, sooner}
use Rattle.graph_match.specs.Allotment.{Allotment}
use Rattle.graph_match.specs.declared.fit.Fit.{Fit}
use Rattle.graph_match.specs.declared.fit.Fit.TheVariants.{Units, Busy, Never}

-- the units that a job takes by first fit, from this second on
pub record AreFirstFit (g : Allotment) (spec : JobSpec) (now : ℕ) (units : Resources) : Type 0 where
  pub nodes : first_fit spec g.grant (free_of g.grant g.live) ≡ Some units.nodes
  pub start : units.starttime ≡ now
  pub end : units.expiration ≡ sooner (end_of spec now) g.expiration
  pub free : AreWithin units.nodes (free_of g.grant g.live)

-- no free units satisfy the job, and these are its blockers
pub record IsBlocked (g : Allotment) (spec : JobSpec) (ids : List ℕ) : Type 0 where
  pub none : first_fit spec g.grant (free_of g.grant g.live) ≡ None
  pub some : NeverFits spec g.grant → ⊥
  pub blockers : AreBlockers spec g.grant g.live ids

-- the answer names the jobs in the way
abbrev pub NamesBlockers : JobSpec → List Node → List Hold → Fit → Type 0
NamesBlockers spec grant live (Busy ids) = AreBlockers spec grant live ids
NamesBlockers spec grant live _ = ⊥

-- what fit answers
abbrev pub Answers : Allotment → JobSpec → ℕ → Fit → Type 0
Answers g spec now (Units units) = AreFirstFit g spec now units
Answers g spec now (Busy ids) = IsBlocked g spec ids
Answers g spec now Never = NeverFits spec g.grant
