pub mod Assigns
