pub mod Lists
pub mod Drawing
pub mod Levels
pub mod Rows
pub mod Spans
pub mod Notes
pub mod Rasters
pub mod Windows
