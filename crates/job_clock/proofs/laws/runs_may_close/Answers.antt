use Rattle.std.proofs.Common.{[], ◌∷◌}
use Rattle.instance_rules.specs.Family.{MayClose}
use Rattle.instance_rules.specs.Log.{service_of}
use Rattle.job_commands.specs.Desks.{desk_of}
use Rattle.kvs_rules.specs.Quiet.{AreAllTold}
use Rattle.manager_rules.specs.Times.{IsIdle}
use Rattle.job_clock.specs.Standing.{StandsWith}
use Rattle.job_clock.proofs.Standing.{at_top, may_close}
use Rattle.job_clock.proofs.laws.runs_may_close.Goals as goal

pub returns : goal.returns
returns c = λ v jobs inst log l top h idle none told.
    at_top l inst log top (λ i g. StandsWith v jobs i g → IsIdle (desk_of v i g jobs) → AreAllTold i.service (service_of g) → MayClose (l ∷ []) [])
    (λ s at_rest all. may_close v jobs l top.from s at_rest none all) h idle told
