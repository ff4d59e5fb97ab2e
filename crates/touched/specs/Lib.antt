pub mod Named
pub mod Touched
