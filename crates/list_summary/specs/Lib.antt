pub mod Shown
pub mod Totals
pub mod Iframes
pub mod Laws
