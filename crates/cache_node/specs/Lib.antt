-- what the calls promise
pub mod Cache
pub mod Order
-- what the code keeps to that end
pub mod Kept
