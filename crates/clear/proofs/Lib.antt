pub mod Zeros
pub mod Columned
