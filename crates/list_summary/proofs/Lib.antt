pub mod Caps
pub mod Sums
pub mod Counted
pub mod IframeSums
pub mod ChainCounts
