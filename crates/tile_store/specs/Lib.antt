pub mod Keys
pub mod Tiles
pub mod StoreModel
pub mod Windows
pub mod Lending
pub mod Spares
pub mod Within
pub mod Laws
