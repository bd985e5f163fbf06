-- what the calls promise
pub mod Codes
pub mod Fresh
pub mod Kept
pub mod Landing
pub mod Shown
-- what the code keeps to that end
pub mod Long
