use Rattle.answers.proofs.Alone.{closes_alone, family_closes, family_rests, family_settled, rests_alone, settled_alone}
use Rattle.answers.proofs.laws.a_run_of_one_instance_goes_as_that_does.Goals as goal

pub returns-clause-rests : goal.returns-clause-rests
returns-clause-rests c set d = (family_rests set d, rests_alone set d)

pub returns-clause-settled : goal.returns-clause-settled
returns-clause-settled c set d = (family_settled set d, settled_alone set d)

pub returns-clause-closes : goal.returns-clause-closes
returns-clause-closes c set d = (λ h. family_closes set d h.0 h.1, closes_alone set d)
