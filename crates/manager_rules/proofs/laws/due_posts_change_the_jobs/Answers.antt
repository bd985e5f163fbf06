use Rattle.manager_rules.proofs.Posting.{posts_land}
use Rattle.manager_rules.proofs.laws.due_posts_change_the_jobs.Goals as goal

pub returns : goal.returns
returns c = λ d post st new desk grant is are sound due landed. posts_land d desk grant st new is are sound post due landed
