pub mod Agrees
pub mod Messages
pub mod Node
pub mod Sound
pub mod Steps
pub mod Value
