use Rattle.hierarchy.proofs.Homes.{left_so, lost_so, unborn_so}
use Rattle.hierarchy.proofs.OneEntry.{one_home}
use Rattle.hierarchy.proofs.Steps.{home_lives}
use Rattle.hierarchy.proofs.family.each_actor_has_at_most_one_home.Goals as goal

pub returns : goal.returns
returns c = record {
  one = λ set d i k actor on bi bk here there. one_home set.work.actors d on.labelled i k actor bi bk here there;
  living = λ set d i actor h here. home_lives set d i actor h here;
  lost = λ set d i actor on gone here. lost_so set d on i actor gone here;
  left = λ set d actor lost. left_so set d actor lost;
  unborn = λ set d actor away. unborn_so set d actor away;
}
