pub mod Shown
pub mod Growing
