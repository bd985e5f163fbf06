pub mod Cells
pub mod Rows
pub mod Columns
pub mod Follows
pub mod Shown
