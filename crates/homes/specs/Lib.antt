-- what the calls promise
pub mod Grant
pub mod Homes
pub mod Inside
pub mod Times
pub mod Tells
pub mod Closing
