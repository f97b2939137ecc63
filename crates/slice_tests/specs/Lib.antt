pub mod TopOf
