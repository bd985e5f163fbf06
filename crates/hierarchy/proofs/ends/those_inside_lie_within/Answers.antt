use Rattle.hierarchy.proofs.Inside.{found_exactly}
use Rattle.hierarchy.proofs.ends.those_inside_lie_within.Goals as goal

pub returns : goal.returns
returns c = λ set d child k run here. found_exactly set d run child here k
