pub mod TopClips
pub mod Gathered
pub mod CommonCount
pub mod Slices
pub mod Facts
pub mod Values
pub mod Laws
