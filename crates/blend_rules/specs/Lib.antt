pub mod Colour
pub mod Laws
pub mod Pixels
pub mod Planes
