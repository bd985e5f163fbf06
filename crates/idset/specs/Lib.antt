pub mod Ids
pub mod Ranges
pub mod Runs
pub mod Text
