pub mod Grids
pub mod Laws
pub mod Parts
pub mod Tiles
