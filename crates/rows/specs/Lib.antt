pub mod Tallies
pub mod Entries
pub mod Effects
pub mod Laying
pub mod Parts
pub mod At
