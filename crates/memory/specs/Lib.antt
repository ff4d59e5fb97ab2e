pub mod Memory
pub mod Steps
pub mod Holding
pub mod Answers
