pub mod Ranges
pub mod Shaped
