pub mod Held
pub mod SoFar
