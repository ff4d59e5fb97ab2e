pub mod Verdicts
pub mod Rising
pub mod Reading
pub mod Judging
pub mod Promises
pub mod Examples
