pub mod Repeats
pub mod ListBytes
pub mod Lengths
pub mod Payloads
pub mod Framed
pub mod FileBytes
