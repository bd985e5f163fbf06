use Rattle.job_submissions.proofs.Due.{is-due, none-due}
use Rattle.job_submissions.proofs.laws.what_is_made_is_due.Goals as goal

pub returns-clause-some : goal.returns-clause-some
returns-clause-some c = λ v inst log jobs x h kind short labelled smalls soon made.
    is-due v inst log jobs x h kind short labelled smalls soon made (c.open_commands_are_open_at_their_issue.ensures inst log) (λ by id. c.new_ids_are_new.ensures v inst log by id h short)

pub returns-clause-none : goal.returns-clause-none
returns-clause-none c = λ v inst log jobs x none due. none-due v inst log jobs x none due
