use Rattle.job_manager.proofs.Due.{post-due, users-due}
use Rattle.job_manager.proofs.laws.what_lands_is_due.Goals as goal

pub returns-clause-none : goal.returns-clause-none
returns-clause-none c = λ inst log groups st none. users-due inst log groups st none

pub returns-clause-one : goal.returns-clause-one
returns-clause-one c = λ inst log desk post groups st valid is due one. post-due inst log valid desk post due groups st is one
