-- How an input is divided into records.
use Rattle.std.specs.Prelude.{◌≡◌, ℕ, zero, suc, ◌+◌, ◌<◌, List, [], ◌∷◌, ◌++◌, length, drop, Bool, true, false, Option, Some, None, if◌then◌else◌}
use Rattle.std.specs.List.{sum_by}
use Rattle.record_frame.specs.declared.limits.TheConstants.{MAX_ENTRIES}

-- What bytes begin with where a record is due: a whole entry, with the bytes after it; the closing byte, with the bytes after it; or neither.
pub data FirstRecord (R : Type 0) : Type 0 where
  entry : R → List ℕ → FirstRecord R
  closing : List ℕ → FirstRecord R
  broken : FirstRecord R

-- the same record with an entry that a function makes of it
abbrev pub map_entry : {A B : Type 0} → (A → B) → FirstRecord A → FirstRecord B
map_entry f (entry a rest) = entry (f a) rest
map_entry f (closing rest) = closing rest
map_entry f broken = broken

-- A form of input with entries R: whether an input begins with its magic; what bytes begin with, where another entry is allowed or isn't; and how many bytes an entry takes.
pub record InputForm (R : Type 0) : Type 0 where
  pub opens : List ℕ → Bool
  pub first : Bool → List ℕ → FirstRecord R
  pub size : R → ℕ

-- What holds of each form. The first four bytes decide whether an input begins with the magic. No record is in no bytes, and no entry where none is allowed. An entry takes at least one byte, and stays where more bytes follow.
pub record IsInputForm {R : Type 0} (form : InputForm R) : Type 0 where
  pub opens_four : (four tail : List ℕ) → length four ≡ 4 → form.opens (four ++ tail) ≡ form.opens four
  pub opens_short : (few : List ℕ) → length few < 4 → form.opens few ≡ false
  pub none : (is_allowed : Bool) → form.first is_allowed [] ≡ broken
  pub allowed : (bytes : List ℕ) (r : R) (rest : List ℕ) → form.first false bytes ≡ entry r rest → ⊥
  pub whole : (is_allowed : Bool) (bytes : List ℕ) (r : R) (rest : List ℕ) → form.first is_allowed bytes ≡ entry r rest → length bytes ≡ form.size r + length rest
  pub some : (is_allowed : Bool) (bytes : List ℕ) (r : R) (rest : List ℕ) → form.first is_allowed bytes ≡ entry r rest → 0 < form.size r
  pub stays : (is_allowed : Bool) (bytes more : List ℕ) (r : R) (rest : List ℕ) → form.first is_allowed bytes ≡ entry r rest → form.first is_allowed (bytes ++ more) ≡ entry r (rest ++ more)

-- the whole entries of some bytes, in order, and the bytes after their closing byte, or none where their framing is broken
pub record Framing (R : Type 0) : Type 0 where
  pub entries : List R
  pub after : Option (List ℕ)

-- the first record, and then what the bytes after it hold
abbrev pub framing_from : {R : Type 0} → FirstRecord R → (List ℕ → Framing R) → Framing R
framing_from (entry r rest) more = record { entries = r ∷ (more rest).entries; after = (more rest).after }
framing_from (closing rest) more = record { entries = []; after = Some rest }
framing_from broken more = record { entries = []; after = None }

-- the records of these bytes, among them at most n entries
unfoldable pub framing : {R : Type 0} → InputForm R → ℕ → List ℕ → Framing R
framing form zero bytes = framing_from (form.first false bytes) (λ _. record { entries = []; after = None })
framing form (suc n) bytes = framing_from (form.first true bytes) (framing form n)

-- how many bytes whole entries take
abbrev pub size_of_all : {R : Type 0} → InputForm R → List R → ℕ
size_of_all form entries = sum_by form.size entries

-- how many entries an input may have
unfoldable pub max_entries : ℕ
max_entries = MAX_ENTRIES

-- the records after an input's magic
unfoldable pub body_framing : {R : Type 0} → InputForm R → List ℕ → Framing R
body_framing form input = framing form max_entries (drop 4 input)

-- an input's whole entries, none where the magic is wrong
abbrev pub entries_of : {R : Type 0} → InputForm R → List ℕ → List R
entries_of form input = if form.opens input then (body_framing form input).entries else []

-- the bytes after an input's closing byte, or none where its framing is broken
abbrev pub after_closing : {R : Type 0} → InputForm R → List ℕ → Option (List ℕ)
after_closing form input = if form.opens input then (body_framing form input).after else None
