pub mod Placing
pub mod BrokenLimits
pub mod Untouched
