-- What a step of a command takes, keeps and writes, and what all steps do together.
use Rattle.std.specs.Prelude.{◌≡◌, ℕ, ◌+◌, List, [], ◌∷◌, ◌++◌, length, Bool, Option, Some, None, Result, Ok, Err}
use Rattle.wr_io.specs.Streams.{HasFailed}
use Rattle.record_frame.specs.Framing.{entry, closing, broken, InputForm, Framing, framing, size_of_all}
use Rattle.record_frame.specs.Answers.{AnswerRule, MayRefuse, Output, unless, records_from, first_refusal, state_after, closing_mark}
use Rattle.record_frame.specs.Reading.{StopsWithin, IsEntry}
use Rattle.record_frame.specs.Writing.{Wrote, IsPrefix, all_but_last}
use Rattle.record_frame.specs.declared.records.StepEnd.{StepEnd}
use Rattle.record_frame.specs.declared.records.StepEnd.TheVariants.{Answered, Closed}
use Rattle.record_frame.specs.declared.error.RunError.{RunError}
use Rattle.record_frame.specs.declared.error.RunError.TheVariants.{BrokenInput, Refused, ReadFailed, WriteFailed, OutOfMemory}

-- A read or a write fails where a call on the source or on the sink did, and none on the other; any other error comes without a failed call; and what is refused may be.
abbrev pub RunCause : {R S : Type 0} → AnswerRule R S → ℕ → ℕ → ℕ → ℕ → RunError → Type 0
RunCause rule source_old source_new sink_old sink_new BrokenInput = (source_new ≡ source_old) × (sink_new ≡ sink_old)
RunCause rule source_old source_new sink_old sink_new (Refused fault) = (source_new ≡ source_old) × (sink_new ≡ sink_old) × MayRefuse rule fault
RunCause rule source_old source_new sink_old sink_new ReadFailed = HasFailed source_old source_new × (sink_new ≡ sink_old)
RunCause rule source_old source_new sink_old sink_new WriteFailed = HasFailed sink_old sink_new × (source_new ≡ source_old)
RunCause rule source_old source_new sink_old sink_new OutOfMemory = (source_new ≡ source_old) × (sink_new ≡ sink_old)

-- What the bytes that were taken where a record is due are: no whole record, a whole entry, or the closing byte.
pub data FoundRecord {R : Type 0} (form : InputForm R) (is_allowed : Bool) (taken : List ℕ) : Type 0 where
  nothing : form.first is_allowed taken ≡ broken → FoundRecord form is_allowed taken
  whole : (r : R) → ((tail : List ℕ) → form.first is_allowed (taken ++ tail) ≡ entry r tail) → FoundRecord form is_allowed taken
  close : ((tail : List ℕ) → form.first is_allowed (taken ++ tail) ≡ closing tail) → FoundRecord form is_allowed taken

-- the record that answers them, and none for the closing byte
abbrev pub answer_to : {R S : Type 0} {form : InputForm R} {is_allowed : Bool} {taken : List ℕ} → AnswerRule R S → FoundRecord form is_allowed taken → S → List ℕ
answer_to rule (nothing h) state = []
answer_to rule (whole r h) state = unless (rule.refusal r state) (rule.record_of r state)
answer_to rule (close h) state = []

-- A step that failed or found no memory wrote a prefix of the answer to what it took.
pub record IsPartOfStep {R S : Type 0} (form : InputForm R) (rule : AnswerRule R S) (is_allowed : Bool) (state : S) (old new : Option (List ℕ)) (taken : List ℕ) : Type 0 where
  pub found : FoundRecord form is_allowed taken
  pub out : List ℕ
  pub part : IsPrefix out (answer_to rule found state)
  pub wrote : Wrote old new out

-- A step answered one record, or ended the run.
abbrev pub StepLeaves : {R S : Type 0} → InputForm R → AnswerRule R S → Bool → S → S → Option (List ℕ) → Option (List ℕ) → Result StepEnd RunError → List ℕ → List ℕ → Type 0
StepLeaves form rule is_allowed state next old new (Ok Answered) taken rest =
    (r : _) × ((tail : List ℕ) → form.first is_allowed (taken ++ tail) ≡ entry r tail) × (rule.refusal r state ≡ None) × (next ≡ rule.next r state) × Wrote old new (rule.record_of r state)
StepLeaves form rule is_allowed state next old new (Ok Closed) taken rest =
    ((tail : List ℕ) → form.first is_allowed (taken ++ tail) ≡ closing tail) × Wrote old new (90 ∷ [])
StepLeaves form rule is_allowed state next old new (Err BrokenInput) taken rest =
    (form.first is_allowed taken ≡ broken) × (form.first is_allowed (taken ++ rest) ≡ broken) × StopsWithin 5 (IsEntry (form.first is_allowed)) taken rest × Wrote old new []
StepLeaves form rule is_allowed state next old new (Err (Refused fault)) taken rest =
    (r : _) × ((tail : List ℕ) → form.first is_allowed (taken ++ tail) ≡ entry r tail) × (rule.refusal r state ≡ Some fault) × Wrote old new []
StepLeaves form rule is_allowed state next old new (Err ReadFailed) taken rest = (form.first is_allowed taken ≡ broken) × Wrote old new []
StepLeaves form rule is_allowed state next old new (Err WriteFailed) taken rest = IsPartOfStep form rule is_allowed state old new taken
StepLeaves form rule is_allowed state next old new (Err OutOfMemory) taken rest = IsPartOfStep form rule is_allowed state old new taken

-- a step that answers no entry leaves the state
abbrev pub StepState : {S : Type 0} → Result StepEnd RunError → S → S → Type 0
StepState (Ok Answered) state next = Unit {0}
StepState (Ok Closed) state next = next ≡ state
StepState (Err BrokenInput) state next = next ≡ state
StepState (Err (Refused fault)) state next = Unit {0}
StepState (Err ReadFailed) state next = Unit {0}
StepState (Err WriteFailed) state next = Unit {0}
StepState (Err OutOfMemory) state next = Unit {0}

-- Where all was answered, and where the framing is broken, the state is that after these entries.
abbrev pub ReachesState : {R S : Type 0} → AnswerRule R S → S → S → Result (Unit {0}) RunError → List R → Type 0
ReachesState rule start now (Ok _) entries = now ≡ state_after rule entries start
ReachesState rule start now (Err BrokenInput) entries = now ≡ state_after rule entries start
ReachesState rule start now (Err (Refused fault)) entries = Unit {0}
ReachesState rule start now (Err ReadFailed) entries = Unit {0}
ReachesState rule start now (Err WriteFailed) entries = Unit {0}
ReachesState rule start now (Err OutOfMemory) entries = Unit {0}

-- entries before those of a framing
abbrev pub with_entries : {R : Type 0} → List R → Framing R → Framing R
with_entries entries framing = record { entries = entries ++ framing.entries; after = framing.after }

-- So far these entries were taken, whole, and answered; so many more are allowed.
pub record Progress {R S : Type 0} (form : InputForm R) (rule : AnswerRule R S) (all left : ℕ) (start now : S) (old new : Option (List ℕ)) (taken rest : List ℕ) : Type 0 where
  pub done : List R
  pub steps : (tail : List ℕ) → framing form all (taken ++ tail) ≡ with_entries done (framing form left tail)
  pub size : length taken ≡ size_of_all form done
  pub state : now ≡ state_after rule done start
  pub none : first_refusal rule start done ≡ None
  pub wrote : Wrote old new (records_from rule start done)

-- what is written for the records of an input, of which so many may be entries
abbrev pub body_answers : {R : Type 0} → Output R → ℕ → List ℕ → List ℕ
body_answers output all bytes = output.records (framing output.form all bytes).entries ++ closing_mark (output.refusal (framing output.form all bytes).entries) (framing output.form all bytes).after

-- A prefix of the records for the bytes that were taken was written. It contains the record of every whole entry but the last, and every record that was due before the last byte was taken.
pub record IsPartOfBody {R : Type 0} (output : Output R) (all : ℕ) (old new : Option (List ℕ)) (taken : List ℕ) : Type 0 where
  pub out : List ℕ
  pub wrote : Wrote old new out
  pub part : IsPrefix out (output.records (framing output.form all taken).entries)
  pub has : IsPrefix (output.records (all_but_last (framing output.form all taken).entries)) out
  pub in_turn : IsPrefix (output.records (framing output.form all (all_but_last taken)).entries) out

-- bytes that hold these whole entries and one more
abbrev pub FramesOneMore : {R : Type 0} → InputForm R → ℕ → List R → List ℕ → Type 0
FramesOneMore form all entries bytes = (r : _) × ((framing form all bytes).entries ≡ entries ++ r ∷ [])

-- What was written for the records that were taken: all of it, or a part. The end came at the closing byte, at an entry that is refused, or where no whole record was taken.
abbrev pub BodyLeaves : {R : Type 0} → Output R → ℕ → Option (List ℕ) → Option (List ℕ) → Result (Unit {0}) RunError → List ℕ → List ℕ → Type 0
BodyLeaves output all old new (Ok _) taken rest =
    Wrote old new (body_answers output all taken) × ((framing output.form all taken).after ≡ Some []) × ((framing output.form all (taken ++ rest)).after ≡ Some rest) × (body_answers output all (taken ++ rest) ≡ body_answers output all taken)
    × (output.refusal (framing output.form all (taken ++ rest)).entries ≡ None)
BodyLeaves output all old new (Err BrokenInput) taken rest =
    Wrote old new (body_answers output all taken) × ((framing output.form all taken).after ≡ None) × ((framing output.form all (taken ++ rest)).after ≡ None) × (body_answers output all (taken ++ rest) ≡ body_answers output all taken)
    × StopsWithin (5 + size_of_all output.form (framing output.form all taken).entries) (FramesOneMore output.form all (framing output.form all taken).entries) taken rest
    × (output.refusal (framing output.form all (taken ++ rest)).entries ≡ None)
BodyLeaves output all old new (Err (Refused fault)) taken rest =
    Wrote old new (body_answers output all taken) × (output.refusal (framing output.form all taken).entries ≡ Some fault) × (output.refusal (framing output.form all (taken ++ rest)).entries ≡ Some fault)
    × (body_answers output all (taken ++ rest) ≡ body_answers output all taken)
BodyLeaves output all old new (Err ReadFailed) taken rest = Wrote old new (body_answers output all taken) × ((framing output.form all taken).after ≡ None) × (output.refusal (framing output.form all taken).entries ≡ None)
BodyLeaves output all old new (Err WriteFailed) taken rest = IsPartOfBody output all old new taken
BodyLeaves output all old new (Err OutOfMemory) taken rest = IsPartOfBody output all old new taken
