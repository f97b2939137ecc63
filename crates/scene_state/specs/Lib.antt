pub mod SceneModel
pub mod StoreFaults
pub mod Operations
pub mod Outcome
pub mod Limits
pub mod Picture
