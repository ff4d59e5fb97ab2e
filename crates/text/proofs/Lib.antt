pub mod Shows
pub mod Tells
pub mod Texts
