pub mod Tournament
pub mod Answered
