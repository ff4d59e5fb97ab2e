pub mod Alls
pub mod Made
pub mod Nths
pub mod Verdicts
