pub mod Tests
pub mod Causes
pub mod Ran
