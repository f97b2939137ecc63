pub mod Expanded
pub mod Places
pub mod Drawn
pub mod Limits
pub mod Rooms
pub mod Laws
