use Rattle.hierarchy.proofs.Resting.{left_answered}
use Rattle.hierarchy.proofs.closing.answered_actors_leave_no_advance.Goals as goal

pub returns : goal.returns
returns c = λ set d none. left_answered set d none
