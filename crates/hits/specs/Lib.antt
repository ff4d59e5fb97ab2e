pub mod Reach
pub mod Who
pub mod Marks
pub mod Strikes
pub mod Steps
pub mod At
