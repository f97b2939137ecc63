pub mod Fits
pub mod Points
pub mod Rects
pub mod Sames
