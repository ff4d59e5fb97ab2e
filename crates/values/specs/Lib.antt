pub mod Complete
pub mod SoundRows
pub mod Starting
pub mod Setting
