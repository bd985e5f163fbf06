pub mod Numbers
pub mod Pieces
pub mod Reading
pub mod Valid
