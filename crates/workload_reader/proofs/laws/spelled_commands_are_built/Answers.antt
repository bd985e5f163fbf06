use Rattle.workload_reader.proofs.Built.{text_built}
use Rattle.workload_reader.proofs.laws.spelled_commands_are_built.Goals as goal

pub returns : goal.returns
returns c = text_built
