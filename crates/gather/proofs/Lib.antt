pub mod Copies
pub mod Adding
