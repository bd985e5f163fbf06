use Rattle.std.proofs.Common.{subst}
use Rattle.job_deeds.specs.Landing.{IsNext}
use Rattle.job_deeds.proofs.Stepping.{next_is}
use Rattle.job_deeds.proofs.landing.next_of.Goals as goal

pub returns : goal.returns
returns c = subst (λ j. IsNext j c.args.due.now (record { job = c.in_ok-job.job; start = c.start_after.result; held = c.in_ok-held.held })) c.row.view_is (next_is _ c.args.due.now (record { job = c.in_ok-job.job; start = c.start_after.result; held = c.in_ok-held.held }) c.in_ok-job.ensures c.start_after.ensures c.in_ok-held.ensures)
