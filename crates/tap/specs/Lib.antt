pub mod Factors
pub mod Priorities
pub mod Verdicts
