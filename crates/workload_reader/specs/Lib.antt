pub mod Lines
pub mod Submits
pub mod References
pub mod Verbs
pub mod Grants
pub mod Reading
pub mod Laws
pub mod Faults
