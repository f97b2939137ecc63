pub mod Keys
pub mod Listed
pub mod Backed
pub mod Blank
pub mod Puts
pub mod Ready
pub mod Pixels
