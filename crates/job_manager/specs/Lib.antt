pub mod Posts
pub mod Places
pub mod Value
pub mod Managed
pub mod Follows
pub mod View
