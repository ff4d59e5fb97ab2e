pub mod Words
pub mod Keys
pub mod Maps
pub mod Hits
