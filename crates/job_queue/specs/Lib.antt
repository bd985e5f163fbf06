-- what the calls promise
pub mod Dependencies
pub mod Queue
-- what the code keeps to that end
pub mod Ranks
