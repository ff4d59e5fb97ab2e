pub mod Listing
pub mod Filled
