pub mod Check
pub mod Checked
pub mod Promised
