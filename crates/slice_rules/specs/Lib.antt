pub mod Homes
pub mod Runs
pub mod Keys
pub mod Shared
pub mod RunLaws
pub mod KeyLaws
pub mod SharedLaws
