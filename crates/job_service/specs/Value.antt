-- A job service as its callers see it.
use Rattle.std.specs.Prelude.{ℕ, Bool, List, Option}
use Rattle.job_commands.specs.Rows.{CommandsValue}
use Rattle.job_manager.specs.Value.{ManagerValue}
use Rattle.job_deeds.specs.manager_rules.Posts.{Post}
use Rattle.job_deeds.specs.manager_rules.declared.terms.Terms.{Terms}
use Rattle.job_service.specs.declared.feeds.Feed.{Feed}
use Rattle.job_service.specs.declared.refusals.Refused.{Refused}

-- the terms on which its jobs are served, the second of its birth and the present one, the manager
-- with the service below it, the open job commands and the children, submissions that are refused,
-- what open watches were fed, what is due and isn't posted, the first job whose child is to be
-- born, how many submissions were issued, and the seconds of all advances that were issued
pub record JobServiceValue : Type 0 where
  pub spent : Bool
  pub terms : Terms
  pub birth : ℕ
  pub second : ℕ
  pub manager : ManagerValue
  pub commands : CommandsValue
  pub refused : List Refused
  pub feeds : List Feed
  pub found : Option Post
  pub bearing : Option ℕ
  pub submitted : ℕ
  pub span : ℕ
