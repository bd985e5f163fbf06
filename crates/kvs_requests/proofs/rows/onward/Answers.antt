use Rattle.std.proofs.Common.{subst}
use Rattle.kvs_requests.specs.Agreement.{StageAgrees}
use Rattle.kvs_requests.proofs.rows.onward.Goals as goal

pub returns-in-Falling-clause-agrees : goal.returns-in-Falling-clause-agrees
returns-in-Falling-clause-agrees c = λ entered set log spaces by request h. c.falling.ensures.agrees entered set log spaces by request (subst (StageAgrees entered set log spaces by request) c.in-Falling.is h)
