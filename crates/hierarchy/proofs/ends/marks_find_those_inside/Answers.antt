use Rattle.hierarchy.proofs.Marks.{marks_find}
use Rattle.hierarchy.proofs.ends.marks_find_those_inside.Goals as goal

pub returns : goal.returns
returns c = λ set d child marked run here marks. marks_find set d child marked run here marks
