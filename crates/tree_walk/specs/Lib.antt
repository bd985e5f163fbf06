-- what the calls promise
pub mod Walks
-- what the code keeps to that end
pub mod Pins
