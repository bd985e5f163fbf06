use Rattle.job_manager.proofs.Dotted.{is-jobspec}
use Rattle.job_manager.proofs.keys.spec_path.Goals as goal

pub key-requires-clause-name : goal.key-requires-clause-name
key-requires-clause-name c = is-jobspec
