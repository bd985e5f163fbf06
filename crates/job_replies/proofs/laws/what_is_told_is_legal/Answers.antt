use Rattle.job_replies.proofs.Legal.{told-legal}
use Rattle.job_replies.proofs.laws.what_is_told_is_legal.Goals as goal

pub returns : goal.returns
returns c v manager now inst log row given number m k s known ready said = told-legal v manager now inst log row m k s known ready given number said
