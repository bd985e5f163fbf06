-- what the calls promise
pub mod Counts
pub mod Roots
pub mod Summary
-- what the code keeps to that end
pub mod Landings
