-- What holds of all transactions, their spellings and their faults.
use Rattle.std.specs.Prelude.{◌≡◌, ◌↔◌, ◌≤◌, ℕ, List, [], ◌++◌, length, Ok, Err}
use Rattle.wr_io.specs.declared.fault.Code.{Code}
use Rattle.wr_io.specs.declared.fault.Fault.{Fault}
use Rattle.field_forms.specs.Form.{AreBytes, fault}
use Rattle.txn_format.specs.Txn.{TxnModel}
use Rattle.txn_format.specs.Grammar.{TxnSpells, IsFirstTxnFault, txn_at}
use Rattle.txn_format.specs.Spelling.{txn_bytes}
use Rattle.txn_format.specs.Checks.{IsTxn}

-- The bytes that spell a transaction are its spelling, and it meets each check; and so the other way round.
abbrev pub SpellingIsTxn : Type 0
SpellingIsTxn = (t : TxnModel) (bytes : List ℕ) → TxnSpells t bytes ↔ ((bytes ≡ txn_bytes t) × IsTxn t)

-- what spells two transactions spells one
abbrev pub OneTxn : Type 0
OneTxn = (t u : TxnModel) (bytes : List ℕ) → TxnSpells t bytes → TxnSpells u bytes → t ≡ u

-- no spelling begins another
abbrev pub NoTxnBegins : Type 0
NoTxnBegins = (t u : TxnModel) (bytes more : List ℕ) → TxnSpells t bytes → TxnSpells u (bytes ++ more) → more ≡ []

-- bytes have one first fault at most
abbrev pub OneTxnFault : Type 0
OneTxnFault = (bytes : List ℕ) (c d : Code) (p q : ℕ) → IsFirstTxnFault bytes c p → IsFirstTxnFault bytes d q → (c ≡ d) × (p ≡ q)

-- what spells a transaction has no fault
abbrev pub TxnsHaveNoFault : Type 0
TxnsHaveNoFault = (bytes : List ℕ) (c : Code) (p : ℕ) (t : TxnModel) → IsFirstTxnFault bytes c p → TxnSpells t bytes → ⊥

-- a first fault stands in the bytes, or just after them
abbrev pub TxnFaultsAreWithin : Type 0
TxnFaultsAreWithin = (bytes : List ℕ) (c : Code) (p : ℕ) → IsFirstTxnFault bytes c p → p ≤ length bytes

-- a transaction that is read is spelled by the bytes
abbrev pub ReadTxnIsSpelled : Type 0
ReadTxnIsSpelled = (bytes : List ℕ) (t : TxnModel) → AreBytes bytes → txn_at bytes ≡ Ok t → TxnSpells t bytes

-- a transaction that the bytes spell is read
abbrev pub SpelledTxnIsRead : Type 0
SpelledTxnIsRead = (t : TxnModel) (bytes : List ℕ) → TxnSpells t bytes → txn_at bytes ≡ Ok t

-- a fault that is read is the first one
abbrev pub ReadTxnFaultIsFirst : Type 0
ReadTxnFaultIsFirst = (bytes : List ℕ) (f : Fault) → AreBytes bytes → txn_at bytes ≡ Err f → IsFirstTxnFault bytes f.code f.at

-- the first fault is read
abbrev pub FirstTxnFaultIsRead : Type 0
FirstTxnFaultIsRead = (bytes : List ℕ) (c : Code) (p : ℕ) → IsFirstTxnFault bytes c p → txn_at bytes ≡ fault c p
