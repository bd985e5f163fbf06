pub mod Growing
pub mod Clashing
