-- what the calls promise
pub mod Value
pub mod Steps
pub mod Order
pub mod Agrees
pub mod Asks
pub mod Makes
pub mod View
-- what lies below, for the crates that stand on this one
pub use Rattle.job_service.specs.answers as answers
pub use Rattle.job_service.specs.child_grant as child_grant
pub use Rattle.job_service.specs.fl_digest as fl_digest
pub use Rattle.job_service.specs.hostlist as hostlist
pub use Rattle.job_service.specs.idset as idset
pub use Rattle.job_service.specs.instance_rules as instance_rules
pub use Rattle.job_service.specs.job_book as job_book
pub use Rattle.job_service.specs.job_clock as job_clock
pub use Rattle.job_service.specs.job_commands as job_commands
pub use Rattle.job_service.specs.job_landings as job_landings
pub use Rattle.job_service.specs.job_manager as job_manager
pub use Rattle.job_service.specs.job_replies as job_replies
pub use Rattle.job_service.specs.job_rules as job_rules
pub use Rattle.job_service.specs as job_service
pub use Rattle.job_service.specs.job_states as job_states
pub use Rattle.job_service.specs.kvs_core as kvs_core
pub use Rattle.job_service.specs.kvs_keys as kvs_keys
pub use Rattle.job_service.specs.kvs_model as kvs_model
pub use Rattle.job_service.specs.kvs_rules as kvs_rules
pub use Rattle.job_service.specs.kvs_txn as kvs_txn
pub use Rattle.job_service.specs.manager_rules as manager_rules
pub use Rattle.job_service.specs.resource_set as resource_set
pub use Rattle.job_service.specs.run_limits as run_limits
pub use Rattle.job_service.specs.tap as tap
pub use Rattle.job_service.specs.workload as workload
