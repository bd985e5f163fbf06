use Rattle.tree_objects.proofs.Stored.{stored_again}
use Rattle.tree_objects.proofs.printing.a_text_is_read_again.Goals as goal

pub returns : goal.returns
returns c tree readable named shallow = stored_again tree readable named shallow
