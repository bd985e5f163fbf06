mod Reading
mod Paths
mod Legal
mod States
mod Saying
