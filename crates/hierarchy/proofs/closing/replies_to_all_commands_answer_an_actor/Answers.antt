use Rattle.hierarchy.proofs.Parts.{answered_all}
use Rattle.hierarchy.proofs.closing.replies_to_all_commands_answer_an_actor.Goals as goal

pub returns : goal.returns
returns c = λ set d actor counts. answered_all set d actor counts
