mod Facts
mod Reading
pub mod Feeding
mod Owing
mod Calls
mod Shutdowns
mod Running
mod Bearing
mod Counting
mod Judging
mod Landed
mod Outgoing
mod Issuing
mod Turning
mod Born
mod Ticking
mod Held
mod Staying
mod Watching
mod News
mod Resting
mod Left
-- what lies below, for the crates that stand on this one
pub use Rattle.answers.proofs as answers_proofs
pub use Rattle.job_deeds.proofs.hostlist_proofs as hostlist_proofs
pub use Rattle.job_commands.proofs as job_commands_proofs
pub use Rattle.job_landings.proofs as job_landings_proofs
pub use Rattle.job_deeds.proofs.job_rules_proofs as job_rules_proofs
pub use Rattle.kvs_core.proofs as kvs_core_proofs
pub use Rattle.kvs_keys.proofs as kvs_keys_proofs
pub use Rattle.kvs_requests.proofs as kvs_requests_proofs
pub use Rattle.kvs_rules.proofs as kvs_rules_proofs
pub use Rattle.kvs_space.proofs as kvs_space_proofs
