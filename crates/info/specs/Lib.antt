pub mod Sound
pub mod LookUps
pub mod Stands
pub mod At
