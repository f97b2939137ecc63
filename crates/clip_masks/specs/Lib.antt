pub mod Clips
pub mod Corners
pub mod Coverage
pub mod Laws
pub mod Outline
pub mod Spans
