use Rattle.event_log.proofs.ReadAgain.{log_back}
use Rattle.event_log.proofs.writing.a_log_is_read_again.Goals as goal

pub returns : goal.returns
returns c = log_back
