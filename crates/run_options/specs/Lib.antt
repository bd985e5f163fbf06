pub mod Given
pub mod Words
pub mod Command
pub mod Matches
