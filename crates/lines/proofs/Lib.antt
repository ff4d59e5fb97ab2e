pub mod Going
pub mod Fielded
pub mod Rowed
pub mod Readings
pub mod Examples
