pub mod Among
pub mod Counts
pub mod Few
pub mod Fits
pub mod Lying
pub mod Sets
pub mod Unique
pub mod UnitKinds
