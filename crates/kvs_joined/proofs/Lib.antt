pub mod Joining
pub mod Pinned
