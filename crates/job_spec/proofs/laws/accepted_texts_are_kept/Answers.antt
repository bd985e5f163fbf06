use Rattle.job_spec.proofs.Accepted.{accepted_keeps}
use Rattle.job_spec.proofs.laws.accepted_texts_are_kept.Goals as goal

pub returns : goal.returns
returns c = accepted_keeps
