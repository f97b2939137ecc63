pub mod Painted
pub mod Apart
pub mod Counting
pub mod Fitting
