pub mod Form
pub mod Outcome
pub mod Numbers
pub mod Fields
pub mod Facts
pub mod Spelling
