pub mod Targets
pub mod Standing
