pub mod Answers
pub mod Watched
