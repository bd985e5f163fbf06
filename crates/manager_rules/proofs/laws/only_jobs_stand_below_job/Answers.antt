use Rattle.manager_rules.proofs.Taking.{first_only, post_keeps, users_keep_only}
use Rattle.manager_rules.proofs.laws.only_jobs_stand_below_job.Goals as goal

pub returns : goal.returns
returns c = record {
  begin = first_only;
  users = users_keep_only;
  posts = λ d post st new desk is are only due landed. post_keeps d desk st is are only post new due landed;
}
