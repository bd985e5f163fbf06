use Rattle.job_states.proofs.Replays.{one_more}
use Rattle.job_states.proofs.laws.one_event_more_is_one_step.Goals as goal

pub returns : goal.returns
returns c = one_more
