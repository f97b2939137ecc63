-- How a command answers the entries of an input, and what it writes.
use Rattle.std.specs.Prelude.{◌≡◌, ℕ, List, [], ◌∷◌, ◌++◌, Option, Some, None, Result, Ok, Err, if◌then◌else◌}
use Rattle.wr_io.specs.declared.fault.Fault.{Fault}
use Rattle.record_frame.specs.Framing.{InputForm, entries_of, after_closing}
use Rattle.record_frame.specs.declared.error.AnswerError.{AnswerError}
use Rattle.record_frame.specs.declared.error.AnswerError.TheVariants as answering

-- The record that answers an entry in a state, the state after it, and the fault with which the entry ends the command, where it is refused.
pub record AnswerRule (R S : Type 0) : Type 0 where
  pub record_of : R → S → List ℕ
  pub next : R → S → S
  pub refusal : R → S → Option Fault

-- in some state some entry is refused with this fault
abbrev pub MayRefuse : {R S : Type 0} → AnswerRule R S → Fault → Type 0
MayRefuse rule fault = (r : _) × (state : _) × (rule.refusal r state ≡ Some fault)

-- What was answered to an entry is what the rule says: the record and the next state, or the refusal, unless memory ran out.
abbrev pub AnswersBy : {R S : Type 0} → AnswerRule R S → R → S → S → List ℕ → Result (Unit {0}) AnswerError → Type 0
AnswersBy rule r old new out (Ok _) = (rule.refusal r old ≡ None) × (new ≡ rule.next r old) × (out ≡ rule.record_of r old)
AnswersBy rule r old new out (Err (answering.Refused fault)) = rule.refusal r old ≡ Some fault
AnswersBy rule r old new out (Err answering.NoMemory) = Unit {0}

-- bytes, and none after a refusal
abbrev pub unless : Option Fault → List ℕ → List ℕ
unless None bytes = bytes
unless (Some fault) bytes = []

-- the first of two refusals
abbrev pub or_else : Option Fault → Option Fault → Option Fault
or_else None later = later
or_else (Some fault) later = Some fault

-- from a state on, a record for each entry before the first that is refused
abbrev pub records_from : {R S : Type 0} → AnswerRule R S → S → List R → List ℕ
records_from rule state [] = []
records_from rule state (r ∷ rs) = unless (rule.refusal r state) (rule.record_of r state ++ records_from rule (rule.next r state) rs)

-- the first refusal
abbrev pub first_refusal : {R S : Type 0} → AnswerRule R S → S → List R → Option Fault
first_refusal rule state [] = None
first_refusal rule state (r ∷ rs) = or_else (rule.refusal r state) (first_refusal rule (rule.next r state) rs)

-- the state after entries, in order
abbrev pub state_after : {R S : Type 0} → AnswerRule R S → List R → S → S
state_after rule [] state = state
state_after rule (r ∷ rs) state = state_after rule rs (rule.next r state)

-- What a command writes: the form of its input, the bytes with which its output begins, the records for entries, and the refusal that ends them.
pub record Output (R : Type 0) : Type 0 where
  pub form : InputForm R
  pub magic : List ℕ
  pub records : List R → List ℕ
  pub refusal : List R → Option Fault

-- the output of a command that answers entries by a rule from a state on
abbrev pub output_from : {R S : Type 0} → InputForm R → List ℕ → AnswerRule R S → S → Output R
output_from form magic rule start = record { form = form; magic = magic; records = records_from rule start; refusal = first_refusal rule start }

-- a closing byte where the input has one and nothing is refused
abbrev pub closing_mark : Option Fault → Option (List ℕ) → List ℕ
closing_mark None None = []
closing_mark None (Some rest) = 90 ∷ []
closing_mark (Some fault) after = []

-- the magic, and a record for each whole entry; nothing where the input's magic is wrong
unfoldable pub unclosed_answers : {R : Type 0} → Output R → List ℕ → List ℕ
unclosed_answers output input = if output.form.opens input then output.magic ++ output.records (entries_of output.form input) else []

-- what is written for an input: these, and the closing byte where the framing isn't broken and nothing is refused
unfoldable pub answers : {R : Type 0} → Output R → List ℕ → List ℕ
answers output input = unclosed_answers output input ++ closing_mark (output.refusal (entries_of output.form input)) (after_closing output.form input)
