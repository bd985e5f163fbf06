mod Units
mod Keeping
mod Groups
mod Own
mod Shown
mod Run
mod Drawn
