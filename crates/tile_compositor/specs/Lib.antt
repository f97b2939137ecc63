pub mod Laid
pub mod Composition
pub mod FrameModel
