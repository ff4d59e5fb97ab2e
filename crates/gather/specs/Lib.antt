pub mod Piles
pub mod Adds
