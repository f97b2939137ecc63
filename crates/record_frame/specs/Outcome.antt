-- What a command leaves of its input and its output.
use Rattle.std.specs.Prelude.{◌≡◌, ℕ, ◌+◌, ◌≤◌, List, [], ◌∷◌, ◌++◌, length, Bool, true, false, Option, Some, None, Result, Ok, Err}
use Rattle.wr_io.specs.declared.fault.Fault.{Fault}
use Rattle.record_frame.specs.Framing.{InputForm, entries_of, after_closing, size_of_all}
use Rattle.record_frame.specs.Answers.{Output, answers, unclosed_answers}
use Rattle.record_frame.specs.Reading.{StopsWithin}
use Rattle.record_frame.specs.Writing.{Wrote, IsPrefix, all_but_last}
use Rattle.record_frame.specs.declared.error.ReadError.{ReadError}
use Rattle.record_frame.specs.declared.error.ReadError.TheVariants.{Broken, Failed, NoMemory}
use Rattle.record_frame.specs.declared.error.RunError.{RunError}
use Rattle.record_frame.specs.declared.error.RunError.TheVariants.{BrokenInput, Refused, ReadFailed, WriteFailed, OutOfMemory}

-- Four bytes were taken that are the magic. Or what was taken isn't it; where the input is broken, the input doesn't begin with it either, and at most four bytes were taken.
abbrev pub Opens : (List ℕ → Bool) → Result (Unit {0}) ReadError → List ℕ → List ℕ → Type 0
Opens opens (Ok _) taken rest = (length taken ≡ 4) × ((tail : List ℕ) → opens (taken ++ tail) ≡ true)
Opens opens (Err Broken) taken rest = (opens taken ≡ false) × (opens (taken ++ rest) ≡ false) × (length taken ≤ 4)
Opens opens (Err Failed) taken rest = opens taken ≡ false
Opens opens (Err NoMemory) taken rest = opens taken ≡ false

-- What beginning an input leaves: four bytes were taken that are the magic, and the output's was written. Or the input's magic wasn't there, and nothing was written; or a part of the output's.
abbrev pub OpeningLeaves : (List ℕ → Bool) → List ℕ → Option (List ℕ) → Option (List ℕ) → Result (Unit {0}) RunError → List ℕ → List ℕ → Type 0
OpeningLeaves opens magic old new (Ok _) taken rest = Opens opens (Ok tt) taken rest × Wrote old new magic
OpeningLeaves opens magic old new (Err BrokenInput) taken rest = Opens opens (Err Broken) taken rest × (new ≡ old)
OpeningLeaves opens magic old new (Err (Refused fault)) taken rest = ⊥
OpeningLeaves opens magic old new (Err ReadFailed) taken rest = Opens opens (Err Failed) taken rest × (new ≡ old)
OpeningLeaves opens magic old new (Err WriteFailed) taken rest = Opens opens (Ok tt) taken rest × ((out : List ℕ) × IsPrefix out magic × Wrote old new out)
OpeningLeaves opens magic old new (Err OutOfMemory) taken rest = Opens opens (Err NoMemory) taken rest × (new ≡ old)

-- what is certainly written of the answers to these entries: the magic, and the records of all but the last
abbrev pub certain_answers : {R : Type 0} → Output R → List R → List ℕ
certain_answers output [] = []
certain_answers output (r ∷ rs) = output.magic ++ output.records (all_but_last (r ∷ rs))

-- All answers to what was taken were written, and what was taken is the input up to its closing byte.
pub record IsAnswered {R : Type 0} (output : Output R) (old new : Option (List ℕ)) (taken rest : List ℕ) : Type 0 where
  pub wrote : Wrote old new (answers output taken)
  pub all : answers output (taken ++ rest) ≡ answers output taken
  pub closed : after_closing output.form taken ≡ Some []
  pub left : after_closing output.form (taken ++ rest) ≡ Some rest
  pub none : output.refusal (entries_of output.form (taken ++ rest)) ≡ None

-- All answers to what was taken were written, and they are those to the input: an entry that was taken is refused and ends them.
pub record IsRefused {R : Type 0} (output : Output R) (fault : Fault) (old new : Option (List ℕ)) (taken rest : List ℕ) : Type 0 where
  pub wrote : Wrote old new (answers output taken)
  pub all : answers output (taken ++ rest) ≡ answers output taken
  pub refused : output.refusal (entries_of output.form taken) ≡ Some fault
  pub first : output.refusal (entries_of output.form (taken ++ rest)) ≡ Some fault

-- an input that holds these whole entries and one more
abbrev pub HasOneMore : {R : Type 0} → InputForm R → List R → List ℕ → Type 0
HasOneMore form entries input = (r : _) × (entries_of form input ≡ entries ++ r ∷ [])

-- All answers to what was taken were written, and they are those to the input, whose framing is broken. No more was taken than the magic, the whole entries and five bytes, or the input ended inside an entry that more bytes would have made whole; so no byte is taken of a payload that is too long. Of an input with another magic at most four bytes were taken.
pub record IsBroken {R : Type 0} (output : Output R) (old new : Option (List ℕ)) (taken rest : List ℕ) : Type 0 where
  pub wrote : Wrote old new (answers output taken)
  pub all : answers output (taken ++ rest) ≡ answers output taken
  pub broken : after_closing output.form (taken ++ rest) ≡ None
  pub none : output.refusal (entries_of output.form (taken ++ rest)) ≡ None
  pub reached : StopsWithin (9 + size_of_all output.form (entries_of output.form taken)) (HasOneMore output.form (entries_of output.form taken)) taken rest
  pub other_magic : output.form.opens (taken ++ rest) ≡ false → length taken ≤ 4

-- All answers to what was taken were written, and it has no closing byte.
pub record IsCut {R : Type 0} (output : Output R) (old new : Option (List ℕ)) (taken : List ℕ) : Type 0 where
  pub wrote : Wrote old new (answers output taken)
  pub unclosed : after_closing output.form taken ≡ None
  pub none : output.refusal (entries_of output.form taken) ≡ None

-- A prefix of the answers to what was taken was written, without a closing byte. It contains the record of every whole entry but the last, and every record that was due before the last byte was taken: each record is written before the next is read.
pub record IsPart {R : Type 0} (output : Output R) (old new : Option (List ℕ)) (taken : List ℕ) : Type 0 where
  pub out : List ℕ
  pub wrote : Wrote old new out
  pub part : IsPrefix out (unclosed_answers output taken)
  pub has : IsPrefix (certain_answers output (entries_of output.form taken)) out
  pub in_turn : IsPrefix (unclosed_answers output (all_but_last taken)) out

-- what a command leaves
abbrev pub InputLeaves : {R : Type 0} → Output R → Option (List ℕ) → Option (List ℕ) → Result (Unit {0}) RunError → List ℕ → List ℕ → Type 0
InputLeaves output old new (Ok _) taken rest = IsAnswered output old new taken rest
InputLeaves output old new (Err BrokenInput) taken rest = IsBroken output old new taken rest
InputLeaves output old new (Err (Refused fault)) taken rest = IsRefused output fault old new taken rest
InputLeaves output old new (Err ReadFailed) taken rest = IsCut output old new taken
InputLeaves output old new (Err WriteFailed) taken rest = IsPart output old new taken
InputLeaves output old new (Err OutOfMemory) taken rest = IsPart output old new taken
