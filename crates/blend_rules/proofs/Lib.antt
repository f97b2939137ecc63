pub mod Products
pub mod Channels
pub mod Blends
pub mod Premultiplied
pub mod Pixels
pub mod Rows
