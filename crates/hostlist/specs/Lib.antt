-- what the calls promise
pub mod Names
pub mod Reading
pub mod Printing
-- what the code keeps to that end
pub mod Parts
pub mod Ties
