pub mod Held
pub mod Stretched
pub mod Order
pub mod Bare
