pub mod Tools
pub mod Faults
pub mod Notices
