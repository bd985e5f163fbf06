pub mod Ready
pub mod Jobs
pub mod Told
