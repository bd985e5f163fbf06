pub mod Counting
pub mod InOneStep
pub mod Landed
pub mod Primary
pub mod Rooted
pub mod Said
mod Owned
