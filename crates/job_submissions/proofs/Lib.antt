pub mod Known
mod Described
mod Drawn
mod Due
