-- what the calls promise
pub mod Units
pub mod Reading
pub mod Writing
pub mod Canonical
pub mod Valid
-- what the code keeps to that end
pub mod Places
