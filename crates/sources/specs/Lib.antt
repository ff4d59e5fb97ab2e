pub mod Shown
pub mod Keeping
pub mod Marks
pub mod Planned
pub mod Ranged
pub mod Rows
