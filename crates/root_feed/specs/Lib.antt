-- what the calls promise
pub mod Looks
pub mod Numbers
pub mod Values
-- what the code keeps to that end
pub mod Rule
