pub mod Puts
pub mod Placing
pub mod Walks
