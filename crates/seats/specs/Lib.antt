pub mod Tiling
pub mod Tests
pub mod Seats
pub mod Calls
pub mod Told
pub mod Plan
