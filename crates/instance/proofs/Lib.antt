mod Owning
mod Listing
pub mod Going
mod Logs
mod Looking
mod Families
mod Ahead
mod Tallies
mod Lining
mod Waiting
mod Given
mod Results
mod News
mod Serving
mod Posting
mod Pushing
mod Bearing
mod Commanding
mod Replying
mod Issuing
mod Rested
mod Starting
mod Seating
mod Ranges
mod Leaving
mod Ending
mod Closing
mod Stilling
mod Feeding
mod Settling
mod Ordering
mod Beginning
mod Numbering
mod Seeing
mod Telling
-- what lies below, for the crates that stand on this one
pub use Rattle.services.proofs.hostlist_proofs as hostlist_proofs
pub use Rattle.services.proofs.job_rules_proofs as job_rules_proofs
pub use Rattle.services.proofs.kvs_keys_proofs as kvs_keys_proofs
pub use Rattle.services.proofs.kvs_rules_proofs as kvs_rules_proofs
