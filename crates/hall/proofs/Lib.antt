pub mod Plan
pub mod Zeroed
pub mod Leaving
pub mod Freed
