pub mod Marking
pub mod Raising
pub mod Standing
