pub mod Runs
pub mod Keys
pub mod Common
pub mod Mapped
