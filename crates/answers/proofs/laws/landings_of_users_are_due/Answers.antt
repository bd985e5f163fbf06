use Rattle.answers.specs.Jobs.{instance_of, log_in}
use Rattle.answers.proofs.Users.{users_due}
use Rattle.answers.proofs.laws.landings_of_users_are_due.Goals as goal

pub returns : goal.returns
returns c set d = users_due (instance_of set) (log_in set.work d)
