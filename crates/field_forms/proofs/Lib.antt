pub mod Bytes
pub mod Forms
pub mod Repeats
pub mod Passing
pub mod Spelled
pub mod Within
