pub mod Ways
pub mod Later
pub mod Tables
pub mod Carrying
