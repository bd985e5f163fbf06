pub mod Stages
pub mod Rows
pub mod Agreement
pub mod Refused
