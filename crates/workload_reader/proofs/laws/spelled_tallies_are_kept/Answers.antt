use Rattle.workload_reader.proofs.Totals.{text_tallies}
use Rattle.workload_reader.proofs.laws.spelled_tallies_are_kept.Goals as goal

pub returns : goal.returns
returns c = text_tallies
