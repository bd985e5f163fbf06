pub mod Changes
pub mod Names
pub mod Replay
pub mod Table
