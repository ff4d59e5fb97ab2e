pub mod Slotted
pub mod Showing
