pub mod Tests
pub mod MovesLaws
pub mod Runs
pub mod Ends
pub mod Loops
