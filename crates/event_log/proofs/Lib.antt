pub mod Faults
pub mod JsonTexts
pub mod Lines
pub mod ReadAgain
