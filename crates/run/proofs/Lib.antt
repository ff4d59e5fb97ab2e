pub mod Steps
pub mod Gathered
pub mod Answers
pub mod Filling
pub mod Joining
pub mod Shaping
