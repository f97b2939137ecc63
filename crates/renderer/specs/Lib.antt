pub mod Drops
pub mod Frames
pub mod RendererModel
pub mod Kept
pub mod Outcome
pub mod PartsModel
pub mod Preparing
pub mod Showing
