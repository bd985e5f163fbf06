use Rattle.job_manager.proofs.Dotted.{is-eventlog}
use Rattle.job_manager.proofs.keys.log_path.Goals as goal

pub key-requires-clause-name : goal.key-requires-clause-name
key-requires-clause-name c = is-eventlog
