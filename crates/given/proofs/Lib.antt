pub mod Beside
pub mod Judgement
pub mod Idling
pub mod Rights
pub mod Lining
pub mod Bad
