pub mod Answers
pub mod Allowed
