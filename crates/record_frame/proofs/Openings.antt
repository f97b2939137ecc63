-- How an input begins.
use Rattle.std.proofs.Common.{◌≡◌, ℕ, List, [], Bool, Option, None, Result, Ok, Err, IfErr, refl, sym, subst}
use Rattle.wr_io.specs.Streams.{HasFailed}
use Rattle.record_frame.specs.Errors.{unread_input}
use Rattle.record_frame.specs.Framing.{IsInputForm}
use Rattle.record_frame.specs.Answers.{Output}
use Rattle.record_frame.specs.Outcome.{InputLeaves, Opens, OpeningLeaves}
use Rattle.record_frame.specs.Writing.{WroteWhole}
use Rattle.record_frame.specs.declared.error.ReadError.{ReadError}
use Rattle.record_frame.specs.declared.error.ReadError.TheVariants.{Broken, Failed, NoMemory}
use Rattle.record_frame.specs.declared.error.RunError.{RunError}
use Rattle.record_frame.specs.declared.error.RunError.TheVariants.{BrokenInput, Refused, ReadFailed, WriteFailed, OutOfMemory}
use Rattle.record_frame.proofs.Magic.{input_magic_alone, input_none}

pub opening_unread : (opens : List ℕ → Bool) (magic : List ℕ) (w : Option (List ℕ)) (e : ReadError) (t r : List ℕ) → Opens opens (Err e) t r → OpeningLeaves opens magic w w (Err (unread_input e)) t r
opening_unread opens magic w Broken t r h = (h, refl)
opening_unread opens magic w Failed t r h = (h, refl)
opening_unread opens magic w NoMemory t r h = (h, refl)

pub cause_of : (ended : Result (Unit {0}) RunError) (old new : ℕ) → IfErr ended (λ e. (e ≡ WriteFailed) × HasFailed old new) → IfErr ended (λ e. e ≡ WriteFailed)
cause_of (Ok x) old new h = tt
cause_of (Err e) old new h = h.0

-- the output's magic was written, whole or in part
pub opening_told : (opens : List ℕ → Bool) (magic : List ℕ) (old new : Option (List ℕ)) (ended : Result (Unit {0}) RunError) → IfErr ended (λ e. e ≡ WriteFailed) → (t r : List ℕ) → Opens opens (Ok tt) t r
    → WroteWhole old new magic ended → OpeningLeaves opens magic old new ended t r
opening_told opens magic old new (Ok x) cause t r h w = (h, w)
opening_told opens magic old new (Err e) cause t r h w = rw cause (h, (w.0, w.1, w.3))

module _ {R : Type 0} (output : Output R) (is : IsInputForm output.form) (empty : output.refusal [] ≡ None) (w0 w1 : Option (List ℕ)) where
  -- what is left where an input wasn't begun
  pub input_unopened : (e : RunError) (t r : List ℕ) → OpeningLeaves output.form.opens output.magic w0 w1 (Err e) t r → InputLeaves output w0 w1 (Err e) t r
  input_unopened BrokenInput t r h = subst (λ (w : Option (List ℕ)). InputLeaves output w0 w (Err BrokenInput) t r) (sym h.1) (input_none output is empty Broken w0 t r h.0)
  input_unopened (Refused fault) t r h = absurd h
  input_unopened ReadFailed t r h = subst (λ (w : Option (List ℕ)). InputLeaves output w0 w (Err ReadFailed) t r) (sym h.1) (input_none output is empty Failed w0 t r h.0)
  input_unopened WriteFailed t r h = input_magic_alone output is empty w0 w1 h.1.0 t r h.1.1 h.1.2 h.0
  input_unopened OutOfMemory t r h = subst (λ (w : Option (List ℕ)). InputLeaves output w0 w (Err OutOfMemory) t r) (sym h.1) (input_none output is empty NoMemory w0 t r h.0)
