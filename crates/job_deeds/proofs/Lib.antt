pub mod Finding
pub mod Alike
pub mod Places
pub mod Rest
pub mod Chosen
pub mod Heads
pub mod Whys
pub mod Fitting
pub mod Stepping
pub mod Passers
pub mod Offers
pub mod Walking
pub mod Passes
-- what lies below, for the crates that stand on this one
pub use Rattle.graph_match.proofs as graph_match_proofs
pub use Rattle.hostlist.proofs as hostlist_proofs
pub use Rattle.job_rules.proofs as job_rules_proofs
pub use Rattle.manager_rules.proofs as manager_rules_proofs
