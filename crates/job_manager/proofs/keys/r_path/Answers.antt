use Rattle.job_manager.proofs.Dotted.{is-r}
use Rattle.job_manager.proofs.keys.r_path.Goals as goal

pub key-requires-clause-name : goal.key-requires-clause-name
key-requires-clause-name c = is-r
