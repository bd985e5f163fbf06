use Rattle.hierarchy.proofs.Ending.{ends_fit, ends_go_on}
use Rattle.hierarchy.proofs.growing.ends_are_legal.Goals as goal

pub returns : goal.returns
returns c = record {
  legal = λ set d inner child parent job shut on inside grounds follows. ends_fit set d inner on child parent job shut inside grounds follows;
  goes_on = λ set d inner child parent job shut on inside grounds follows. ends_go_on set d inner on child parent job shut inside grounds follows;
}
