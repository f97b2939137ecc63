-- What a run leaves, by its exit status.
use Rattle.std.specs.Prelude.{◌≡◌, ℕ, List, [], ◌∷◌, ◌++◌, codes, ◌==◌, if◌then◌else◌, Option, MatchOption, ◌⊎◌, Result, Ok, Err}
use Rattle.wr_io.specs.declared.fault.Fault.{Fault}
use Rattle.record_frame.specs.Framing.{entries_of, after_closing, framing}
use Rattle.record_frame.specs.Answers.{AnswerRule, Output, state_after}
use Rattle.record_frame.specs.Steps.{BodyLeaves}
use Rattle.record_frame.specs.declared.limits.TheConstants.{MAX_ENTRIES}
use Rattle.record_frame.specs.Outcome.{IsAnswered, IsRefused, IsBroken, IsCut, IsPart}
use Rattle.record_frame.specs.declared.error.RunError.{RunError}
use Rattle.record_frame.specs.declared.error.RunError.TheVariants.{BrokenInput, Refused, ReadFailed, WriteFailed, OutOfMemory}

-- The exit status of an input that was answered or not. Status 1 is that of words that name no command, and 6 that of an entry that a command refuses.
abbrev pub status_of : Result (Unit {0}) RunError → ℕ
status_of (Ok _) = 0
status_of (Err BrokenInput) = 2
status_of (Err ReadFailed) = 3
status_of (Err WriteFailed) = 4
status_of (Err OutOfMemory) = 5
status_of (Err (Refused fault)) = 6

-- what a run with a status leaves
pub record Outcome {R : Type 0} (output : Output R) (status : ℕ) (old new : Option (List ℕ)) (taken rest : List ℕ) : Type 0 where
  pub done : status ≡ 0 → IsAnswered output old new taken rest
  pub broken_input : status ≡ 2 → IsBroken output old new taken rest
  pub read_failed : status ≡ 3 → IsCut output old new taken
  pub write_failed : status ≡ 4 → IsPart output old new taken
  pub out_of_memory : status ≡ 5 → IsPart output old new taken
  pub refused : status ≡ 6 → (fault : Fault) × IsRefused output fault old new taken rest

-- what a run with a status leaves of the records after a magic
pub record BodyOutcome {R : Type 0} (output : Output R) (status : ℕ) (old new : Option (List ℕ)) (taken rest : List ℕ) : Type 0 where
  pub ended : Result (Unit {0}) RunError
  pub is : status ≡ status_of ended
  pub leaves : BodyLeaves output MAX_ENTRIES old new ended taken rest

-- memory ran out, or the status is 6 where an entry is refused, and else 0 where the framing of the records isn't broken and 2 where it is
abbrev pub BodyCompletes : {R : Type 0} → Output R → ℕ → List ℕ → Type 0
BodyCompletes output status bytes =
    (status ≡ 5) ⊎ MatchOption (output.refusal (framing output.form MAX_ENTRIES bytes).entries) (MatchOption (framing output.form MAX_ENTRIES bytes).after (status ≡ 2) (λ _. status ≡ 0)) (λ _. status ≡ 6)

-- with status 0 and 2 the state is that after all whole entries
pub record ReachesEnd {R S : Type 0} (rule : AnswerRule R S) (status : ℕ) (start now : S) (entries : List R) : Type 0 where
  pub done : status ≡ 0 → now ≡ state_after rule entries start
  pub broken : status ≡ 2 → now ≡ state_after rule entries start

-- memory ran out, or the status is 6 where an entry is refused, and else 0 where the framing isn't broken and 2 where it is
abbrev pub Completes : {R : Type 0} → Output R → ℕ → List ℕ → Type 0
Completes output status input =
    (status ≡ 5) ⊎ MatchOption (output.refusal (entries_of output.form input)) (MatchOption (after_closing output.form input) (status ≡ 2) (λ _. status ≡ 0)) (λ _. status ≡ 6)

-- the text of a status
abbrev pub note_of : ℕ → List ℕ
note_of status =
    if status == 1 then codes "usage: wrreplay replay [--stats] | paint | load NUMBER COUNT" ++ 10 ∷ [] else
    if status == 2 then codes "wrreplay: broken input" ++ 10 ∷ [] else
    if status == 3 then codes "wrreplay: read failed" ++ 10 ∷ [] else
    if status == 4 then codes "wrreplay: write failed" ++ 10 ∷ [] else
    if status == 5 then codes "wrreplay: out of memory" ++ 10 ∷ [] else []
