mod Numbering
mod Resting
mod Turning
pub mod Waiting
-- what lies below, for the crates that stand on this one
pub use Rattle.job_service.proofs.answers_proofs as answers_proofs
pub use Rattle.job_service.proofs.hostlist_proofs as hostlist_proofs
pub use Rattle.job_service.proofs.job_commands_proofs as job_commands_proofs
pub use Rattle.job_service.proofs.job_rules_proofs as job_rules_proofs
pub use Rattle.job_service.proofs.kvs_keys_proofs as kvs_keys_proofs
pub use Rattle.job_service.proofs.kvs_rules_proofs as kvs_rules_proofs
