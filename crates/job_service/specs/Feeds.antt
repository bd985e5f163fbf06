-- What a feed promises.
use Rattle.std.specs.Prelude.{◌≡◌, ℕ, ◌<◌, ◌≤◌, ◌^◌, ◌++◌, List, [], ◌∷◌, Bool, Some, Contains, false, true}
use Rattle.std.specs.Option.{option_map_or}
use Rattle.instance_rules.specs.Legal.{IsLegalMoment}
use Rattle.instance_rules.specs.Log as rules
use Rattle.instance_rules.specs.Log.{Instance, Log, service_of}
use Rattle.job_deeds.specs.kvs_txn.declared.txn.By.{By}
use Rattle.kvs_rules.specs.Brokers.{heard}
use Rattle.kvs_rules.specs.Namespaces.{primary}
use Rattle.job_service.specs.Agrees.{AgreesJobs}
use Rattle.job_commands.specs.Rows.{job_at}
use Rattle.job_commands.specs.declared.ask.JobAsk.TheVariants as ask
use Rattle.job_commands.specs.declared.row.Row.{Row}
use Rattle.job_manager.specs.Places.{log_seen}
use Rattle.job_service.specs.Watching.{IsFedNow, feed_of, has_more, has_news}
use Rattle.job_service.specs.Refusals.{row_in}
use Rattle.job_service.specs.Value.{JobServiceValue}
use Rattle.job_service.specs.declared.feeds.Fed.{Fed}
use Rattle.job_service.specs.declared.feeds.Feed.{Feed}

-- whether an open command is a watch that can be fed
abbrev pub can_feed : JobServiceValue → By → Bool
can_feed v by = option_map_or
    (λ row. has_news v.commands.labels v.manager row.rank (feed_of v.feeds row.by) row.ask)
    (row_in v.commands by) false

-- the open command is a watch of a job, and is fed so
pub record IsFedByRow (v : JobServiceValue) (by : By) (f : Feed) : Type 0 where
  pub row : Row
  pub stands : Contains v.commands.rows row
  pub of : row.by ≡ by
  pub label : List ℕ
  pub asks : row.ask ≡ ask.Watch label
  pub id : ℕ
  pub small : id < 2 ^ 64
  pub names : job_at label v.commands.labels ≡ Some id
  pub news : has_more v.manager.core row.rank (feed_of v.feeds by)
      (log_seen v.manager.core row.rank id) ≡ true
  pub fed : IsFedNow v.manager row.rank id v.terms.shown f

-- the command is fed so, at a root that its broker has heard of last, which its rules allow, and
-- the service stands behind that
pub record Feeds (new : JobServiceValue) (inst : Instance) (log : Log) (by : By) (fed : Fed)
    : Type 0 where
  pub legal : IsLegalMoment inst log (rules.Fed by fed.number fed.first fed.count)
  pub agrees : AgreesJobs new inst (log ++ rules.Fed by fed.number fed.first fed.count ∷ [])
  pub number : heard (service_of log) (inst.rank by) primary ≡ Some fed.number
  pub some : 1 ≤ fed.count
