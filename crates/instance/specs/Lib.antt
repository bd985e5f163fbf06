-- what the calls promise
pub mod Floors
pub mod Seats
pub mod Value
pub mod Jobs
pub mod Steps
pub mod Order
pub mod Agrees
pub mod Family
pub mod Closings
pub mod Makes
pub mod View
-- what the code keeps to that end
pub mod Replies
pub mod First
pub mod Marks
-- what lies below, for the crates that stand on this one
pub use Rattle.services.specs.answers as answers
pub use Rattle.services.specs.child_grant as child_grant
pub use Rattle.services.specs.fl_digest as fl_digest
pub use Rattle.services.specs.hostlist as hostlist
pub use Rattle.services.specs.idset as idset
pub use Rattle.services.specs.instance_rules as instance_rules
pub use Rattle.services.specs.job_book as job_book
pub use Rattle.services.specs.job_manager as job_manager
pub use Rattle.services.specs.kvs_core as kvs_core
pub use Rattle.services.specs.kvs_keys as kvs_keys
pub use Rattle.services.specs.kvs_rules as kvs_rules
pub use Rattle.services.specs.kvs_txn as kvs_txn
pub use Rattle.services.specs.manager_rules as manager_rules
pub use Rattle.services.specs.resource_set as resource_set
pub use Rattle.services.specs.run_limits as run_limits
pub use Rattle.services.specs as services
pub use Rattle.services.specs.tap as tap
pub use Rattle.services.specs.workload as workload
