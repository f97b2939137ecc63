pub mod Tiles
pub mod KeptCode
pub mod Work
pub mod Sound
pub mod Steps
pub mod Progress
pub mod Showing
