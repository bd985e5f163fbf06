pub mod Caches
pub mod Entries
pub mod Leaving
pub mod Orders
pub mod Same
pub mod Sums
pub mod Walk
