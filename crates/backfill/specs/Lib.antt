pub mod Held
pub mod Reserved
pub mod Reservations
