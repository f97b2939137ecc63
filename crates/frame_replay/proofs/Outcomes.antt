-- What exit statuses say of how runs ended.
use Rattle.std.proofs.Common.{◌≢◌, ℕ, List, ◌++◌, Option, Some, None, IfSome, inl, inr, Result, Ok, Err, refl, arith}
use Rattle.record_frame.specs.Answers.{AnswerRule, Output}
use Rattle.record_frame.specs.Outcome.{InputLeaves}
use Rattle.record_frame.specs.Steps.{BodyLeaves, ReachesState}
use Rattle.record_frame.specs.declared.error.RunError.{RunError}
use Rattle.record_frame.specs.declared.error.RunError.TheVariants.{BrokenInput, Refused, ReadFailed, WriteFailed, OutOfMemory}
use Rattle.frame_replay.specs.Outcome.{BodyCompletes, Completes, Outcome, ReachesEnd, status_of}

module _ {R : Type 0} (output : Output R) (old new : Option (List ℕ)) (t r : List ℕ) where
  pub outcome_of : (ended : Result (Unit {0}) RunError) → InputLeaves output old new ended t r → Outcome output (status_of ended) old new t r
  outcome_of (Ok x) h = record {
    done = λ _. h;
    broken_input = λ e. absurd (omega (arith, e));
    read_failed = λ e. absurd (omega (arith, e));
    write_failed = λ e. absurd (omega (arith, e));
    out_of_memory = λ e. absurd (omega (arith, e));
    refused = λ e. absurd (omega (arith, e));
  }
  outcome_of (Err BrokenInput) h = record {
    done = λ e. absurd (omega (arith, e));
    broken_input = λ _. h;
    read_failed = λ e. absurd (omega (arith, e));
    write_failed = λ e. absurd (omega (arith, e));
    out_of_memory = λ e. absurd (omega (arith, e));
    refused = λ e. absurd (omega (arith, e));
  }
  outcome_of (Err (Refused fault)) h = record {
    done = λ e. absurd (omega (arith, e));
    broken_input = λ e. absurd (omega (arith, e));
    read_failed = λ e. absurd (omega (arith, e));
    write_failed = λ e. absurd (omega (arith, e));
    out_of_memory = λ e. absurd (omega (arith, e));
    refused = λ _. (fault, h);
  }
  outcome_of (Err ReadFailed) h = record {
    done = λ e. absurd (omega (arith, e));
    broken_input = λ e. absurd (omega (arith, e));
    read_failed = λ _. h;
    write_failed = λ e. absurd (omega (arith, e));
    out_of_memory = λ e. absurd (omega (arith, e));
    refused = λ e. absurd (omega (arith, e));
  }
  outcome_of (Err WriteFailed) h = record {
    done = λ e. absurd (omega (arith, e));
    broken_input = λ e. absurd (omega (arith, e));
    read_failed = λ e. absurd (omega (arith, e));
    write_failed = λ _. h;
    out_of_memory = λ e. absurd (omega (arith, e));
    refused = λ e. absurd (omega (arith, e));
  }
  outcome_of (Err OutOfMemory) h = record {
    done = λ e. absurd (omega (arith, e));
    broken_input = λ e. absurd (omega (arith, e));
    read_failed = λ e. absurd (omega (arith, e));
    write_failed = λ e. absurd (omega (arith, e));
    out_of_memory = λ _. h;
    refused = λ e. absurd (omega (arith, e));
  }

  pub completes_of : (ended : Result (Unit {0}) RunError) → InputLeaves output old new ended t r → status_of ended ≢ 3 → status_of ended ≢ 4 → Completes output (status_of ended) (t ++ r)
  completes_of (Ok x) h no_read no_write = inr (rw (h.none, h.left) refl)
  completes_of (Err BrokenInput) h no_read no_write = inr (rw (h.none, h.broken) refl)
  completes_of (Err (Refused fault)) h no_read no_write = inr (rw h.first refl)
  completes_of (Err ReadFailed) h no_read no_write = absurd (no_read refl)
  completes_of (Err WriteFailed) h no_read no_write = absurd (no_write refl)
  completes_of (Err OutOfMemory) h no_read no_write = inl refl

  pub body_completes_of : (ended : Result (Unit {0}) RunError) → BodyLeaves output 4294967295 old new ended t r → status_of ended ≢ 3 → status_of ended ≢ 4 → BodyCompletes output (status_of ended) (t ++ r)
  body_completes_of (Ok x) h no_read no_write = inr (rw (h.4, h.2) refl)
  body_completes_of (Err BrokenInput) h no_read no_write = inr (rw (h.5, h.2) refl)
  body_completes_of (Err (Refused fault)) h no_read no_write = inr (rw h.2 refl)
  body_completes_of (Err ReadFailed) h no_read no_write = absurd (no_read refl)
  body_completes_of (Err WriteFailed) h no_read no_write = absurd (no_write refl)
  body_completes_of (Err OutOfMemory) h no_read no_write = inl refl

-- a state is reached with status 0 and 2
pub ends_of : {R S : Type 0} (rule : AnswerRule R S) (start now : S) (entries : List R) (ended : Result (Unit {0}) RunError) → ReachesState rule start now ended entries → ReachesEnd rule (status_of ended) start now entries
ends_of rule start now entries (Ok x) h = record { done = λ _. h; broken = λ e. absurd (omega (arith, e)) }
ends_of rule start now entries (Err BrokenInput) h = record { done = λ e. absurd (omega (arith, e)); broken = λ _. h }
ends_of rule start now entries (Err (Refused fault)) h = record { done = λ e. absurd (omega (arith, e)); broken = λ e. absurd (omega (arith, e)) }
ends_of rule start now entries (Err ReadFailed) h = record { done = λ e. absurd (omega (arith, e)); broken = λ e. absurd (omega (arith, e)) }
ends_of rule start now entries (Err WriteFailed) h = record { done = λ e. absurd (omega (arith, e)); broken = λ e. absurd (omega (arith, e)) }
ends_of rule start now entries (Err OutOfMemory) h = record { done = λ e. absurd (omega (arith, e)); broken = λ e. absurd (omega (arith, e)) }

pub if_some : {A : Type 0} (o : Option A) (P Q : A → Type 0) → ((a : A) → P a → Q a) → IfSome o P → IfSome o Q
if_some None P Q f h = tt
if_some (Some a) P Q f h = f a h
