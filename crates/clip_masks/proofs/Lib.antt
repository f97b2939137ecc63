pub mod Bytes
pub mod Chains
pub mod Moves
pub mod Points
pub mod Rows
pub mod Sides
pub mod Clips
