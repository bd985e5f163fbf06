pub mod Times
pub mod Jobs
pub mod Views
pub mod Reserved
pub mod Feeds
