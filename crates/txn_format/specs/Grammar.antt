-- Which bytes spell a transaction, and where the first fault of others is.
use Rattle.std.specs.Prelude.{◌≡◌, ℕ, ◌<◌, ◌≤◌, ◌^◌, List, ◌++◌, length, Result, Ok, Err}
use Rattle.wr_io.specs.declared.fault.Code.{Code}
use Rattle.wr_io.specs.declared.fault.Code.TheVariants as code
use Rattle.wr_io.specs.declared.fault.Fault.{Fault}
use Rattle.wr_io.specs.declared.fault.DecodeError.{DecodeError}
use Rattle.wr_io.specs.declared.fault.DecodeError.TheVariants as errors
use Rattle.field_forms.specs.Form.{Passes, Refuses, next, read, nothing_left}
use Rattle.txn_format.specs.Txn.{TxnModel}
use Rattle.txn_format.specs.Forms.{txn_form}

-- The bytes are the fields of the transaction, each of which passes its checks, and nothing more.
abbrev pub TxnSpells : TxnModel → List ℕ → Type 0
TxnSpells t bytes = Passes txn_form 0 bytes t

-- some bytes, at most 64 MiB of them, spell it
abbrev pub IsTxnSpelled : TxnModel → Type 0
IsTxnSpelled t = (bytes : List ℕ) × (length bytes ≤ 2 ^ 26) × TxnSpells t bytes

-- The bytes begin with fields that pass, and the next field is refused with this code at this position; or bytes follow a
-- whole transaction.
pub data IsFirstTxnFault (bytes : List ℕ) (c : Code) (p : ℕ) : Type 0 where
  refused : Refuses txn_form 0 bytes c p → IsFirstTxnFault bytes c p
  surplus : (t : TxnModel) (prefix more : List ℕ) → bytes ≡ prefix ++ more → 0 < length more → TxnSpells t prefix → c ≡ code.Trailing → p ≡ length prefix
      → IsFirstTxnFault bytes c p

-- Each fault that is answered is the first one.
abbrev pub TxnFaultIsFirst : {X : Type 0} → Result X DecodeError → List ℕ → Type 0
TxnFaultIsFirst (Ok x) bytes = Unit {0}
TxnFaultIsFirst (Err errors.NoMemory) bytes = Unit {0}
TxnFaultIsFirst (Err (errors.Fault f)) bytes = IsFirstTxnFault bytes f.code f.at

-- the transaction of all the bytes, read from left to right, or the first fault
abbrev pub txn_at : List ℕ → Result TxnModel Fault
txn_at bytes = next (read txn_form (record { at = 0; bytes = bytes })) (λ x. next (nothing_left x.1) (λ _. Ok x.0))
