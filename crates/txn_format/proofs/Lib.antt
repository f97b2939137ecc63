pub mod WholeTxns
pub mod OpSpellings
pub mod TxnSpellings
pub mod PutOps
pub mod TxnWithin
pub mod OpLengths
