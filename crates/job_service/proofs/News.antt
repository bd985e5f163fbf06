-- What is known of a watch that can be fed.
use Rattle.std.proofs.Common.{◌≡◌, ℕ, true, false, Option, Some, List, sym, ap, ◌∙◌}
use Rattle.std.specs.Option.{option_map_or}
use Rattle.job_commands.specs.Rows.{Labels, job_at}
use Rattle.job_commands.specs.declared.ask.JobAsk.TheVariants as ask
use Rattle.job_commands.specs.declared.row.Row.{Row}
use Rattle.job_deeds.specs.kvs_txn.declared.txn.By.{By}
use Rattle.job_manager.specs.Places.{log_seen}
use Rattle.job_manager.specs.Value.{ManagerValue}
use Rattle.job_service.specs.Feeds.{can_feed}
use Rattle.job_service.specs.Refusals.{row_in}
use Rattle.job_service.specs.Value.{JobServiceValue}
use Rattle.job_service.specs.Watching.{feed_of, has_more, has_news}
use Rattle.job_service.specs.declared.feeds.Feed.{Feed}

-- of its row
pub row_news : (v : JobServiceValue) (by : By) (row : Row) → row_in v.commands by ≡ Some row → can_feed v by ≡ true → has_news v.commands.labels v.manager row.rank (feed_of v.feeds row.by) row.ask ≡ true
row_news v by row is can = sym (ap (λ o. option_map_or (λ (r : Row). has_news v.commands.labels v.manager r.rank (feed_of v.feeds r.by) r.ask) o false) is) ∙ can

-- of the job that its label names
pub job_news : (labels : Labels) (m : ManagerValue) (rank : ℕ) (feed : Option Feed) (label : List ℕ) (id : ℕ) → job_at label labels ≡ Some id → has_news labels m rank feed (ask.Watch label) ≡ true → has_more m.core rank feed (log_seen m.core rank id) ≡ true
job_news labels m rank feed label id is news = sym (ap (λ o. option_map_or (λ i. has_more m.core rank feed (log_seen m.core rank i)) o false) is) ∙ news
