use Rattle.std.proofs.Common.{refl}
use Rattle.instance_rules.specs.Log.{Issued}
use Rattle.job_clock.proofs.Targets.{targets_go_on}
use Rattle.job_clock.proofs.Times.{begins_in_time, issued_in_time, others_in_time}
use Rattle.job_clock.proofs.laws.times_follow_the_log.Goals as goal

pub returns-clause-begins : goal.returns-clause-begins
returns-clause-begins c = λ v inst h. begins_in_time v inst h

pub returns-clause-targets : goal.returns-clause-targets
returns-clause-targets c = λ v new inst log m target h k known. targets_go_on v new inst log m h k target known

pub returns-clause-advances : goal.returns-clause-advances
returns-clause-advances c = λ v new inst log by birth span seconds h k asks t. issued_in_time v new inst log (Issued by) h k by birth span seconds refl asks t

pub returns-clause-others : goal.returns-clause-others
returns-clause-others c = λ v new inst log m birth now span h k none t. others_in_time v new inst log m h k birth now span none t
