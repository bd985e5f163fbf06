use Rattle.job_service.proofs.Staying.{stays_due}
use Rattle.job_service.proofs.laws.what_waits_stays_due.Goals as goal

pub returns : goal.returns
returns c = λ v new inst log m jobs post old now same stays leaves due.
    stays_due inst log m v new jobs old now same c.what_is_due_stays_due.ensures.events c.what_is_due_stays_due.ensures.submissions post stays leaves due
