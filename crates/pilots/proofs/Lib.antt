pub mod Backed
pub mod Lends
pub mod Lent
