-- what the calls promise
pub mod Allotment
pub mod Answers
pub mod Holds
pub mod Racks
-- what the code keeps to that end
pub mod Kept
pub mod Places
pub mod Rooms
pub mod Spots
