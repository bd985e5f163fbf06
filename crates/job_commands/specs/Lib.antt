pub mod Asks
pub mod Children
pub mod Rows
pub mod Shown
pub mod Agrees
pub mod Moments
pub mod Desks
