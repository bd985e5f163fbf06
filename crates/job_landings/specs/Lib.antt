pub mod Landings
pub mod Commands
