pub mod Moves
pub mod Lineage
pub mod Offsets
pub mod Homes
pub mod Laws
