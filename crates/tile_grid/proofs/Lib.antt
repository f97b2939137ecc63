pub mod Axes
pub mod Floors
pub mod Grids
pub mod Lists
pub mod Meetings
pub mod Parts
pub mod Ranges
