use Rattle.std.proofs.Common.{◌∙◌, ◌<◌, ◌+◌, ◌^◌, arith, sym, ap, subst, Contains}
use Rattle.instance_rules.specs.Family.{HasTarget}
use Rattle.run_limits.specs.Limits.{most_seconds}
use Rattle.job_service.specs.Agrees.{AgreesJobs}
use Rattle.job_service.specs.Times.{targets_left}
use Rattle.job_service.specs.View.{value_of}
use Rattle.job_clock.proofs.Times.{in_time_below}
use Rattle.job_service.proofs.Ticking.{target_left}
use Rattle.job_service.proofs.service.JobService.next_target.Goals as goal

pub returns-clause-targets : goal.returns-clause-targets
returns-clause-targets c = λ inst log l target a lives.
    let b = subst (λ w. AgreesJobs w inst log) (sym c.self.view_is) a in
    subst (λ w. (HasTarget l target × (w.second < target) → Contains (targets_left w) target) × (Contains (targets_left w) target → HasTarget l target × (w.second < target))) c.self.view_is
    (target_left (value_of c.self.inside) inst log b l lives target)

pub next_target-requires : goal.next_target-requires
next_target-requires c =
    let i = (c.self.invariant (ap (λ v. v.spent) c.self.view_is ∙ c.requires)).fit in
    in_time_below c.self.inside.commands c.self.inside.birth c.self.inside.second (most_seconds + c.self.inside.span) (2 ^ 64) i.timed (let a = i.early in let b = i.near in omega (arith, a, b))
