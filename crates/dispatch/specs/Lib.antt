pub mod Keyed
pub mod Whole
pub mod At
