pub mod Fits
pub mod Worths
