-- What reading takes from an input, whether it succeeds or not.
use Rattle.std.specs.Prelude.{◌≡◌, ℕ, ◌<◌, ◌≤◌, List, [], ◌∷◌, ◌++◌, length, Option, Some, None, ◌⊎◌, Result, Ok, Err}
use Rattle.wr_io.specs.Streams.{HasFailed}
use Rattle.record_frame.specs.Framing.{FirstRecord, entry, closing, broken}
use Rattle.record_frame.specs.declared.error.ReadError.{ReadError}
use Rattle.record_frame.specs.declared.error.ReadError.TheVariants.{Broken, Failed, NoMemory}

-- The bytes that were left are those that were taken and those that are left now, and this holds of the two.
pub record Took (bytes : List ℕ) (left : Option (List ℕ)) (P : List ℕ → List ℕ → Type 0) : Type 0 where
  pub taken : List ℕ
  pub rest : List ℕ
  pub split : bytes ≡ taken ++ rest
  pub now : left ≡ Some rest
  pub fact : P taken rest

-- So many bytes were taken and appended to others, or fewer were taken; where the input is broken, it ended there.
abbrev pub Gets : {X : Type 0} → Result X ReadError → ℕ → List ℕ → List ℕ → List ℕ → List ℕ → Type 0
Gets (Ok x) count old new taken rest = (length taken ≡ count) × (new ≡ old ++ taken)
Gets (Err Broken) count old new taken rest = (length taken < count) × (rest ≡ [])
Gets (Err Failed) count old new taken rest = length taken < count
Gets (Err NoMemory) count old new taken rest = length taken < count

-- One byte was taken, or none; where the input is broken, it ended there.
abbrev pub GetsTag : Result ℕ ReadError → List ℕ → List ℕ → Type 0
GetsTag (Ok tag) taken rest = taken ≡ tag ∷ []
GetsTag (Err Broken) taken rest = (taken ≡ []) × (rest ≡ [])
GetsTag (Err Failed) taken rest = taken ≡ []
GetsTag (Err NoMemory) taken rest = taken ≡ []

-- The input was taken to its end, and more bytes would have made this of it.
pub record IsCutOff (Whole : List ℕ → Type 0) (taken rest : List ℕ) : Type 0 where
  pub ended : rest ≡ []
  pub tail : List ℕ
  pub whole : Whole (taken ++ tail)

-- at most so many bytes were taken, or the input was cut off
abbrev pub StopsWithin : ℕ → (List ℕ → Type 0) → List ℕ → List ℕ → Type 0
StopsWithin most Whole taken rest = (length taken ≤ most) ⊎ IsCutOff Whole taken rest

-- the bytes are one whole entry
abbrev pub IsEntry : {R : Type 0} → (List ℕ → FirstRecord R) → List ℕ → Type 0
IsEntry first bytes = (r : _) × (first bytes ≡ entry r [])

-- the record of a head and a payload: an entry, or the closing byte where there is no head
abbrev pub record_read : {H R : Type 0} → (H → List ℕ → R) → List ℕ → Option H → List ℕ → FirstRecord R
record_read entry_of payload (Some head) = entry (entry_of head payload)
record_read entry_of payload None = closing

-- What was taken is the first record, whatever follows. Or no whole record was taken, and where the input is broken none is there: then at most so many bytes were taken to see it, or an entry was cut off.
abbrev pub Decides : {X R : Type 0} → ℕ → (List ℕ → FirstRecord R) → (X → List ℕ → FirstRecord R) → Result X ReadError → List ℕ → List ℕ → Type 0
Decides most first found (Ok x) taken rest = (tail : List ℕ) → first (taken ++ tail) ≡ found x tail
Decides most first found (Err Broken) taken rest = (first taken ≡ broken) × (first (taken ++ rest) ≡ broken) × StopsWithin most (IsEntry first) taken rest
Decides most first found (Err Failed) taken rest = first taken ≡ broken
Decides most first found (Err NoMemory) taken rest = first taken ≡ broken

-- The same of a part that has so many bytes.
abbrev pub DecidesWith : {X R : Type 0} → ℕ → (List ℕ → FirstRecord R) → (X → List ℕ → FirstRecord R) → Result X ReadError → List ℕ → List ℕ → Type 0
DecidesWith size first found (Ok x) taken rest = (length taken ≡ size) × ((tail : List ℕ) → first (taken ++ tail) ≡ found x tail)
DecidesWith size first found (Err e) taken rest = Decides size first found (Err e) taken rest

-- Reading fails where a call on the source did, and any other error comes without one.
abbrev pub ReadCause : ℕ → ℕ → ReadError → Type 0
ReadCause old new Broken = new ≡ old
ReadCause old new Failed = HasFailed old new
ReadCause old new NoMemory = new ≡ old
