pub mod Csv
pub mod Labels
pub mod Puts
pub mod Sought
