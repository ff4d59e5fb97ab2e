pub mod Loop
pub mod Looping
