pub mod Terms
pub mod Runs
pub mod Generated
pub mod Commands
