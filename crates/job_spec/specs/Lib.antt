-- what the calls promise
pub mod Fields
pub mod Numbers
pub mod Resources
pub mod Works
pub mod Limits
pub mod Specs
pub mod Sound
pub mod Seen
-- what the code keeps to that end
pub mod Names
