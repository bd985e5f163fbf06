use Rattle.job_submissions.proofs.Known.{grounds}
use Rattle.job_submissions.proofs.laws.what_is_lacking_is_so_by_the_log.Goals as goal

pub returns : goal.returns
returns c = λ v inst log jobs depends named h lacks. grounds v inst log jobs depends named h lacks
