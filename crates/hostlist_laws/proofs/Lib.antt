pub mod Fronts
pub mod Ranges
pub mod Parts
pub mod Spelling
pub mod Origins
pub mod Example
