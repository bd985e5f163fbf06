use Rattle.fluid_ids.proofs.Rereads.{printed_again}
use Rattle.fluid_ids.proofs.laws.printed_ids_are_read_again.Goals as goal

pub returns : goal.returns
returns c = printed_again
