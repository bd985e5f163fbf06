mod Dotted
mod Landing
mod Roots
mod Due
mod Following
mod Steps
mod Placing
