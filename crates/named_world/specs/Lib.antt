-- what the calls promise
pub mod Value
pub mod Words
