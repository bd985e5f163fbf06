pub mod Lists
pub mod Unread
pub mod Accepted
