pub mod Lists
pub mod Floats
pub mod Columns
pub mod Options
