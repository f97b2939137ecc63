pub mod Clips
pub mod Folds
