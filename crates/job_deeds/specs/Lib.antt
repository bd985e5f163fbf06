-- what the calls promise
pub mod Actions
pub mod Waiting
pub mod Passing
pub mod Choices
pub mod Landing
-- what lies below, for the crates that stand on this one
pub use Rattle.event_log.specs as event_log
pub use Rattle.graph_match.specs as graph_match
pub use Rattle.hostlist.specs as hostlist
pub use Rattle.idset.specs as idset
pub use Rattle.job_queue.specs as job_queue
pub use Rattle.job_rules.specs as job_rules
pub use Rattle.job_spec.specs as job_spec
pub use Rattle.job_states.specs as job_states
pub use Rattle.kvs_model.specs as kvs_model
pub use Rattle.kvs_txn.specs as kvs_txn
pub use Rattle.manager_rules.specs as manager_rules
pub use Rattle.resource_set.specs as resource_set
pub use Rattle.shells.specs as shells
pub use Rattle.store_laws.specs as store_laws
pub use Rattle.tap.specs as tap
