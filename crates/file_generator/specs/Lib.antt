pub mod Rolls
pub mod Lists
pub mod Files
pub mod Laws
