pub mod Raised
pub mod Marked
