pub mod Searching
pub mod Backs
pub mod Slots
pub mod Queues
pub mod Spreads
pub mod Firsts
pub mod Telling
