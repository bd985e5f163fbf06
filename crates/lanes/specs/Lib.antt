-- what the calls promise
pub mod Looks
pub mod Runs
