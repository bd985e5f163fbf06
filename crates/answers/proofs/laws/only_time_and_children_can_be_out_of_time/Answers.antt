use Rattle.answers.proofs.Alone.{in_time}
use Rattle.answers.proofs.laws.only_time_and_children_can_be_out_of_time.Goals as goal

pub returns : goal.returns
returns c set d made s free h = in_time set d made s free h
