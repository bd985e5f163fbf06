pub mod Digits
pub mod Rereads
