use Rattle.job_states.proofs.Replays.{refusal_stays}
use Rattle.job_states.proofs.laws.a_refusal_stays.Goals as goal

pub returns : goal.returns
returns c = refusal_stays
