use Rattle.std.proofs.Common.{[]}
use Rattle.hierarchy.proofs.Legal.{all_run_at_top, legal_alone, legal_run, settled_as_alone, settled_run, whole_alone, whole_run}
use Rattle.hierarchy.proofs.laws.a_run_without_children_is_of_one_instance.Goals as goal

pub returns-clause-legal : goal.returns-clause-legal
returns-clause-legal c set d tops h = (λ l. legal_alone set tops d h l, λ p. legal_run set tops d h p.0 p.1)

pub returns-clause-whole : goal.returns-clause-whole
returns-clause-whole c set d tops h l =
    let at = all_run_at_top set [] d tt h l in
    (λ w. whole_alone set tops d h at w, λ p. whole_run set tops d h at p.0)

pub returns-clause-settled : goal.returns-clause-settled
returns-clause-settled c set d tops h l =
    let at = all_run_at_top set [] d tt h l in
    (λ r. settled_as_alone set tops d h at r, λ p. settled_run set tops d h at p.1)
