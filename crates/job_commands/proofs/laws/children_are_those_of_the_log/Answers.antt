use Rattle.job_commands.specs.Desks.{asked_of}
use Rattle.job_commands.proofs.Children.{had_told, living_told, shut_told}
use Rattle.job_commands.proofs.Desks.{children_stand}
use Rattle.job_commands.proofs.laws.children_are_those_of_the_log.Goals as goal

pub returns-clause-had : goal.returns-clause-had
returns-clause-had c = λ v inst log job h. had_told (asked_of v) log (children_stand v inst log h) job

pub returns-clause-living : goal.returns-clause-living
returns-clause-living c = λ v inst log job h. living_told (asked_of v) log (children_stand v inst log h) job

pub returns-clause-shut : goal.returns-clause-shut
returns-clause-shut c = λ v inst log job h. shut_told (asked_of v) log (children_stand v inst log h) job
