pub mod Places
pub mod Parts
pub mod Inserts
pub mod Given
pub mod Rows
