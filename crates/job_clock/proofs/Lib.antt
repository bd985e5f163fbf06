pub mod Targets
pub mod Least
pub mod Standing
pub mod Times
