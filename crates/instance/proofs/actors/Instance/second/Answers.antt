use Rattle.std.proofs.Common.{sym}
use Rattle.instance.proofs.actors.Instance.second.Goals as goal

pub returns-clause-agrees : goal.returns-clause-agrees
returns-clause-agrees c = λ set own agrees. (sym agrees.agrees.jobs.second, sym agrees.agrees.jobs.kind.birth)
