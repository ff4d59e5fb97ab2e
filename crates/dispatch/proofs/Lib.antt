pub mod Rooms
pub mod ByObject
pub mod Bases
pub mod Parted
pub mod Ending
