pub mod Space
pub mod Links
pub mod Losses
pub mod Rulings
pub mod Sound
pub mod Roll
pub mod Told
