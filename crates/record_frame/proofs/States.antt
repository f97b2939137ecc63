-- The state after an input, or after its records.
use Rattle.std.proofs.Common.{◌≡◌, ℕ, List, [], ◌++◌, Option, Some, None, IfSome, Result, Ok, Err, nat_lt, refl, sym, ap, subst, ◌∙◌, append_assoc, append-nil}
use Rattle.record_frame.specs.Errors.{unread_input, unanswered_input}
use Rattle.record_frame.specs.Framing.{InputForm, IsInputForm, Framing, framing, entries_of}
use Rattle.record_frame.specs.Answers.{AnswerRule, Output, state_after}
use Rattle.record_frame.specs.Outcome.{Opens, OpeningLeaves}
use Rattle.record_frame.specs.Reading.{Took}
use Rattle.record_frame.specs.Steps.{Progress, ReachesState, StepLeaves, StepState}
use Rattle.record_frame.specs.declared.records.StepEnd.TheVariants.{Closed}
use Rattle.record_frame.specs.declared.error.AnswerError.{AnswerError}
use Rattle.record_frame.specs.declared.error.AnswerError.TheVariants as answering
use Rattle.record_frame.specs.declared.error.ReadError.{ReadError}
use Rattle.record_frame.specs.declared.error.ReadError.TheVariants.{Broken, Failed, NoMemory}
use Rattle.record_frame.specs.declared.error.RunError.{RunError}
use Rattle.record_frame.specs.declared.error.RunError.TheVariants.{BrokenInput, Refused, ReadFailed, WriteFailed, OutOfMemory}
use Rattle.record_frame.proofs.Framings.{framing_close, framing_none}
use Rattle.record_frame.proofs.Magic.{entries_after}

-- a step that reads no record leaves the state
pub unread_state : {S : Type 0} (e : ReadError) (state : S) → StepState (Err (unread_input e)) state state
unread_state Broken state = refl
unread_state Failed state = tt
unread_state NoMemory state = tt

pub unanswered_state : {S : Type 0} (e : AnswerError) (state next : S) → StepState (Err (unanswered_input e)) state next
unanswered_state (answering.Refused fault) state next = tt
unanswered_state answering.NoMemory state next = tt

-- of what was taken and what is left, this holds of them together
pub of_all : (bytes left : Option (List ℕ)) (P : List ℕ → Type 0) → IfSome bytes (λ b. Took b left (λ t r. P (t ++ r))) → IfSome bytes P
of_all None left P h = tt
of_all (Some b) left P h = subst P (sym h.split) h.fact

-- what holds of all bytes that are left after the first, and so of all
pub after_opening : (bytes left : Option (List ℕ)) (P : List ℕ → List ℕ → Type 0) (Q A : List ℕ → Type 0) → ((t r : List ℕ) → P t r → Q r → A (t ++ r)) → IfSome bytes (λ b. Took b left P) → IfSome left Q → IfSome bytes A
after_opening None left P Q A step first second = tt
after_opening (Some b) left P Q A step first second = subst A (sym first.split) (step first.taken first.rest first.fact (rw first.now at second))

module _ {R S : Type 0} (form : InputForm R) (is : IsInputForm form) (rule : AnswerRule R S) (all n : ℕ) (start mid next : S) (w0 w1 w2 : Option (List ℕ)) (t r u s : List ℕ) (split : r ≡ u ++ s) (p : Progress form rule all n start mid w0 w1 t r) where
  -- where no entry follows, the state is that after all
  state_there : (framing form n (u ++ s)).entries ≡ [] → next ≡ mid → next ≡ state_after rule (framing form all ((t ++ u) ++ s)).entries start
  state_there none same =
      let entries : (framing form all ((t ++ u) ++ s)).entries ≡ p.done =
      ap (λ (b : List ℕ). (framing form all b).entries) (append_assoc t u s) ∙ ap (λ (f : Framing R). f.entries) (p.steps (u ++ s)) ∙ ap (λ (l : List R). p.done ++ l) none ∙ append-nil p.done in
      same ∙ p.state ∙ ap (λ (l : List R). state_after rule l start) (sym entries)

  pub state_closed : StepLeaves form rule (nat_lt 0 n) mid next w1 w2 (Ok Closed) u s → next ≡ mid → ReachesState rule start next (Ok tt) (framing form all ((t ++ u) ++ s)).entries
  state_closed h same = state_there (ap (λ (f : Framing R). f.entries) (framing_close form is n (u ++ s) s (h.0 s))) same

  pub state_ended : (e : RunError) → StepLeaves form rule (nat_lt 0 n) mid next w1 w2 (Err e) u s → StepState (Err e) mid next → ReachesState rule start next (Err e) (framing form all ((t ++ u) ++ s)).entries
  state_ended BrokenInput h same = state_there (ap (λ (f : Framing R). f.entries) (framing_none form is n (u ++ s) h.1)) same
  state_ended (Refused fault) h same = tt
  state_ended ReadFailed h same = tt
  state_ended WriteFailed h same = tt
  state_ended OutOfMemory h same = tt

module _ {R S : Type 0} (output : Output R) (rule : AnswerRule R S) (start : S) where
  -- an input that doesn't begin with its magic has no entries
  pub state_unopened : (old new : Option (List ℕ)) (e : RunError) (t r : List ℕ) → OpeningLeaves output.form.opens output.magic old new (Err e) t r → ReachesState rule start start (Err e) (entries_of output.form (t ++ r))
  state_unopened old new BrokenInput t r h = sym (ap (λ (l : List R). state_after rule l start) none)
    where
      none : entries_of output.form (t ++ r) ≡ []
      none = rw (h.0.1) refl
  state_unopened old new (Refused fault) t r h = tt
  state_unopened old new ReadFailed t r h = tt
  state_unopened old new WriteFailed t r h = tt
  state_unopened old new OutOfMemory t r h = tt

  -- the entries of an input are those of its records
  pub state_opened : (now : S) (ended : Result (Unit {0}) RunError) (t r : List ℕ) → Opens output.form.opens (Ok tt) t r → ReachesState rule start now ended (framing output.form 4294967295 r).entries
      → ReachesState rule start now ended (entries_of output.form (t ++ r))
  state_opened now ended t r h reached = subst (ReachesState rule start now ended) (sym (entries_after output t r h.0 (h.1 r))) reached
