pub mod Steps
pub mod Powers
pub mod Weights
pub mod Signs
pub mod Counts
pub mod HundredthsLaws
pub mod Pairs
