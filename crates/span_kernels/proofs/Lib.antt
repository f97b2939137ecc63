pub mod ColourLaws
pub mod Stepping
pub mod Bytes
pub mod Parts
pub mod Sixteen
pub mod Whole
pub mod Weaving
