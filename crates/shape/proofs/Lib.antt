pub mod Scans
pub mod BookScans
pub mod FitScans
pub mod Headers
pub mod Following
pub mod Shapes
pub mod FiniteBits
