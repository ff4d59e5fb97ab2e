pub mod Tallies
pub mod Blocks
