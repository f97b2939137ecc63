pub mod Txn
pub mod Models
pub mod Forms
pub mod Grammar
pub mod Spelling
pub mod Checks
pub mod Laws
