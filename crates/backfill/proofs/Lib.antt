pub mod Holding
pub mod Fitting
pub mod Spare
