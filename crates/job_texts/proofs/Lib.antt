pub mod Descriptions
pub mod Listing
pub mod Small
