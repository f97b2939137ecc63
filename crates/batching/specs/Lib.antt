pub mod Depths
pub mod Intervals
