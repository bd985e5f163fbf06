use Rattle.workload_reader.proofs.Labels.{text_labels}
use Rattle.workload_reader.proofs.laws.spelled_labels_are_their_own.Goals as goal

pub returns : goal.returns
returns c = text_labels
