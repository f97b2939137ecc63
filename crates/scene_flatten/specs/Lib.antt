pub mod Chains
pub mod Entries
pub mod Tops
pub mod Facts
pub mod Laws
