-- What a function returned, against what reading gives.
use Rattle.std.specs.Prelude.{◌≡◌, ◌+◌, ◌≤◌, ℕ, Result, Ok, Err}
use Rattle.wr_io.specs.Unread.{Unread}
use Rattle.wr_io.specs.declared.fault.Fault.{Fault}
use Rattle.wr_io.specs.declared.fault.DecodeError.{DecodeError}
use Rattle.wr_io.specs.declared.fault.DecodeError.TheVariants as errors

-- A refusal is the fault that reading gives, unless memory ran out.
abbrev pub Fails : {Y : Type 0} → DecodeError → Result Y Fault → Type 0
Fails errors.NoMemory read = Unit {0}
Fails (errors.Fault f) read = read ≡ Err f

-- What was returned is what reading gives, unless memory ran out.
abbrev pub Gives : {Y : Type 0} → Result Y DecodeError → Result Y Fault → Type 0
Gives (Ok x) read = read ≡ Ok x
Gives (Err e) read = Fails e read

-- The same of a reader, which then stands after what it read.
abbrev pub Reads : {X : Type 0} → Result X DecodeError → Unread → Result (X × Unread) Fault → Type 0
Reads (Ok x) new read = read ≡ Ok (x, new)
Reads (Err e) new read = Fails e read

-- The same where contracts see what was read by a view of it.
abbrev pub ReadsBy : {X Y : Type 0} → (X → Y) → Result X DecodeError → Unread → Result (Y × Unread) Fault → Type 0
ReadsBy view (Ok x) new read = read ≡ Ok (view x, new)
ReadsBy view (Err e) new read = Fails e read

-- a fault of a part that begins at a position, where the part's own positions are counted from 0
abbrev pub moved_fault : ℕ → Fault → Fault
moved_fault by f = record { code = f.code; at = by + f.at }

-- the same of an error
abbrev pub moved_error : ℕ → DecodeError → DecodeError
moved_error by errors.NoMemory = errors.NoMemory
moved_error by (errors.Fault f) = errors.Fault (moved_fault by f)

-- the same of a result
abbrev pub moved : {X : Type 0} → ℕ → Result X Fault → Result X Fault
moved by (Ok x) = Ok x
moved by (Err f) = Err (moved_fault by f)

-- an error's position is at most this
abbrev pub IsWithin : ℕ → DecodeError → Type 0
IsWithin most errors.NoMemory = Unit {0}
IsWithin most (errors.Fault f) = f.at ≤ most
