pub mod Counting
pub mod Staying
pub mod Uses
