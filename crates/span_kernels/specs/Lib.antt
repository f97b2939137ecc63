pub mod Bytes
pub mod Lanes
pub mod Laws
pub mod Lending
pub mod Parts
pub mod PlanesModel
pub mod Stepped
