pub mod Following
pub mod Judged
