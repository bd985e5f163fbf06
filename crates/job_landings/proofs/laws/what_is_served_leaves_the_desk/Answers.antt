use Rattle.job_landings.proofs.Landing.{desk_along}
use Rattle.job_landings.proofs.Serving.{desk_same, desk_still}
use Rattle.job_landings.proofs.laws.what_is_served_leaves_the_desk.Goals as goal

pub returns-clause-one : goal.returns-clause-one
returns-clause-one c = λ v inst log m jobs. desk_same v inst log m jobs

pub returns-clause-all : goal.returns-clause-all
returns-clause-all c = λ v inst log moments jobs. desk_still v inst log moments jobs

pub returns-clause-events : goal.returns-clause-events
returns-clause-events c = λ v inst log events jobs. desk_along v inst jobs events log
