use Rattle.job_spec.proofs.Accepted.{accepted_tells}
use Rattle.job_spec.proofs.laws.accepted_texts_tell_jobspecs.Goals as goal

pub returns : goal.returns
returns c = accepted_tells
