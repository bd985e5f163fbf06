pub mod Value
pub mod Children
pub mod Refusals
pub mod Watching
pub mod Agrees
pub mod Replies
pub mod Makes
pub mod Due
pub mod Judged
pub mod Posted
pub mod Landed
pub mod View
pub mod Times
pub mod Feeds
pub mod Still
-- what lies below, for the crates that stand on this one
pub use Rattle.answers.specs as answers
pub use Rattle.child_grant.specs as child_grant
pub use Rattle.fl_digest.specs as fl_digest
pub use Rattle.job_deeds.specs.hostlist as hostlist
pub use Rattle.job_deeds.specs.idset as idset
pub use Rattle.instance_rules.specs as instance_rules
pub use Rattle.job_book.specs as job_book
pub use Rattle.job_clock.specs as job_clock
pub use Rattle.job_commands.specs as job_commands
pub use Rattle.job_landings.specs as job_landings
pub use Rattle.job_manager.specs as job_manager
pub use Rattle.job_replies.specs as job_replies
pub use Rattle.job_deeds.specs.job_rules as job_rules
pub use Rattle.job_deeds.specs.job_states as job_states
pub use Rattle.job_submissions.specs as job_submissions
pub use Rattle.kvs_core.specs as kvs_core
pub use Rattle.kvs_keys.specs as kvs_keys
pub use Rattle.job_deeds.specs.kvs_model as kvs_model
pub use Rattle.kvs_requests.specs as kvs_requests
pub use Rattle.kvs_rules.specs as kvs_rules
pub use Rattle.kvs_space.specs as kvs_space
pub use Rattle.job_deeds.specs.kvs_txn as kvs_txn
pub use Rattle.job_deeds.specs.manager_rules as manager_rules
pub use Rattle.job_deeds.specs.resource_set as resource_set
pub use Rattle.run_limits.specs as run_limits
pub use Rattle.job_deeds.specs.tap as tap
pub use Rattle.workload.specs as workload
