pub mod NearMoves
pub mod Lineages
pub mod Tables
pub mod Nodes
pub mod Chains
pub mod Distances
pub mod Places
