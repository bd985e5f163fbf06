use Rattle.manager_rules.proofs.Telling.{asks, known, needs}
use Rattle.manager_rules.proofs.laws.due_submissions_tell_themselves.Goals as goal

pub returns-clause-asks : goal.returns-clause-asks
returns-clause-asks c = λ s birth submits x due scene from. asks s scene birth submits x due from

pub returns-clause-needs : goal.returns-clause-needs
returns-clause-needs c = λ s birth submits x due scene from small. needs s scene birth submits x due from small

pub returns-clause-known : goal.returns-clause-known
returns-clause-known c = λ s birth submits x due. known s x birth submits due
