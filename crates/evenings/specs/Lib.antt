pub mod Leaving
pub mod Evenings
