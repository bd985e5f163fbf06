-- what the calls promise
pub mod Contract
pub mod Value
-- what the code keeps and finds to that end
pub mod Active
pub mod Kept
pub mod Seconds
pub mod Waking
