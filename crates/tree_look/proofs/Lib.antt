pub mod Stored
pub mod Passing
pub mod Following
pub mod Ending
pub mod Listing
pub mod Storing
