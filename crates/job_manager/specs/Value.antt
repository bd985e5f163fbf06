-- A job manager over its service, as its callers see it.
use Rattle.std.specs.Prelude.{Bool, Option}
use Rattle.kvs_core.specs.Value.{CoreValue}
use Rattle.job_book.specs.Value.{BookValue}
use Rattle.manager_rules.specs.Posts.{Post}
use Rattle.job_manager.specs.Places.{LogPlaces}

pub record ManagerValue : Type 0 where
  pub spent : Bool
  pub core : CoreValue
  pub book : BookValue
  pub posted : Option Post  -- what was posted and hasn't landed
  pub places : LogPlaces
