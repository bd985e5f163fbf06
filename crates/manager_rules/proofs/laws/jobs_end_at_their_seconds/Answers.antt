use Rattle.manager_rules.proofs.Rules.{expires_then, finishes_then}
use Rattle.manager_rules.proofs.laws.jobs_end_at_their_seconds.Goals as goal

pub returns : goal.returns
returns c = record { finish = finishes_then; timeout = expires_then }
