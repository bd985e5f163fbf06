use Rattle.hierarchy.proofs.Hearing.{rises, tied}
use Rattle.hierarchy.proofs.hearings.hearings_rise.Goals as goal

pub returns-clause-tied : goal.returns-clause-tied
returns-clause-tied c = λ set d broker l. tied set d broker l

pub returns-clause-rises : goal.returns-clause-rises
returns-clause-rises c = λ set d l. rises set d l
