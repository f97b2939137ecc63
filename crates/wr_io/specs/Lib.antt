pub mod Codes
pub mod Streams
pub mod Memory
pub mod Unread
pub mod Reading
pub mod Standard
