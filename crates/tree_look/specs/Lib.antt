-- what the calls promise
pub mod Looks
-- what the code keeps to that end
pub mod Legs
