pub mod Sides
pub mod Asked
pub mod Drawn
pub mod Faults
pub mod Notices
