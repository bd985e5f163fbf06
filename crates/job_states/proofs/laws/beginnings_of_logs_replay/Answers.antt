use Rattle.job_states.proofs.Replays.{beginning}
use Rattle.job_states.proofs.laws.beginnings_of_logs_replay.Goals as goal

pub returns : goal.returns
returns c = beginning
