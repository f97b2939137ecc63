pub mod Errors
pub mod Framing
pub mod Transactions
pub mod Answers
pub mod Reading
pub mod Writing
pub mod Steps
pub mod Outcome
