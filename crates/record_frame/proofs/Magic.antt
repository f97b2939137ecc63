-- The magic, and what follows it.
use Rattle.std.proofs.Common.{◌≡◌, ℕ, ◌+◌, ◌-◌, ◌≤◌, ◌<◌, List, [], ◌∷◌, ◌++◌, Bool, true, false, Option, None, Result, Ok, Err, inl, length, refl, sym, ap, ◌∙◌, arith, append_assoc, append-nil, length-take-le}
use Rattle.std.proofs.lemmas.List.{drop_at}
use Rattle.record_frame.specs.Errors.{unread_input}
use Rattle.record_frame.specs.Framing.{IsInputForm, Framing, body_framing, max_entries, framing, size_of_all, entries_of, after_closing}
use Rattle.record_frame.specs.Answers.{Output, closing_mark, answers, unclosed_answers}
use Rattle.record_frame.specs.Reading.{Gets, StopsWithin}
use Rattle.record_frame.specs.Writing.{Wrote, IsPrefix, all_but_last}
use Rattle.record_frame.specs.Steps.{body_answers, IsPartOfBody, FramesOneMore, BodyLeaves}
use Rattle.record_frame.specs.Outcome.{Opens, certain_answers, HasOneMore, IsPart, InputLeaves}
use Rattle.record_frame.specs.declared.error.ReadError.{ReadError}
use Rattle.record_frame.specs.declared.error.ReadError.TheVariants.{Broken, Failed, NoMemory}
use Rattle.record_frame.specs.declared.error.RunError.{RunError}
use Rattle.record_frame.specs.declared.error.RunError.TheVariants.{BrokenInput, Refused, ReadFailed, WriteFailed, OutOfMemory}
use Rattle.record_frame.proofs.Takings.{stops_more, stops_after}
use Rattle.record_frame.proofs.Writing.{wrote_more, nothing_written, prefix_after, prefix_extended, but_last_after}
use Rattle.record_frame.proofs.Framings.{framing_empty}

-- too few bytes
pub opens_short : (opens : List ℕ → Bool) → ((few : List ℕ) → length few < 4 → opens few ≡ false) → (e : ReadError) (new t r : List ℕ) → Gets {X = Unit {0}} (Err e) 4 [] new t r → Opens opens (Err e) t r
opens_short opens short Broken new t r q =
    (short t q.0, ap (λ x. opens (t ++ x)) q.1 ∙ ap opens (append-nil t) ∙ short t q.0, omega (arith, q.0))
opens_short opens short Failed new t r q = short t q
opens_short opens short NoMemory new t r q = short t q

module _ {R : Type 0} (output : Output R) (t u : List ℕ) (len : length t ≡ 4) (is : output.form.opens (t ++ u) ≡ true) where
  -- the records after the magic
  body_of : body_framing output.form (t ++ u) ≡ framing output.form 4294967295 u
  unfolding body_framing max_entries
  body_of = ap (framing output.form 4294967295) (drop_at t u 4 len)

  pub entries_after : entries_of output.form (t ++ u) ≡ (framing output.form 4294967295 u).entries
  entries_after = rw (is, body_of) refl

  pub closing_after : after_closing output.form (t ++ u) ≡ (framing output.form 4294967295 u).after
  closing_after = rw (is, body_of) refl

  pub unclosed_after : unclosed_answers output (t ++ u) ≡ output.magic ++ output.records (framing output.form 4294967295 u).entries
  unfolding unclosed_answers
  unclosed_after = rw (is, body_of) refl

  pub answers_after : answers output (t ++ u) ≡ output.magic ++ body_answers output 4294967295 u
  unfolding answers unclosed_answers
  answers_after =
      rw (is, body_of) (append_assoc output.magic (output.records (framing output.form 4294967295 u).entries) (closing_mark (output.refusal (framing output.form 4294967295 u).entries) (framing output.form 4294967295 u).after))

module _ {R : Type 0} (output : Output R) (is : IsInputForm output.form) (empty : output.refusal [] ≡ None) where
  -- without the magic nothing is answered, and the framing is broken
  unclosed_none : (input : List ℕ) → output.form.opens input ≡ false → unclosed_answers output input ≡ []
  unfolding unclosed_answers
  unclosed_none input wrong = rw wrong refl

  answers_none : (input : List ℕ) → output.form.opens input ≡ false → answers output input ≡ []
  unfolding answers unclosed_answers
  answers_none input wrong = rw (wrong, empty) refl

  entries_none : (input : List ℕ) → output.form.opens input ≡ false → entries_of output.form input ≡ []
  entries_none input wrong = rw wrong refl

  after_none : (input : List ℕ) → output.form.opens input ≡ false → after_closing output.form input ≡ None
  after_none input wrong = rw wrong refl

  refusal_none : (input : List ℕ) → output.form.opens input ≡ false → output.refusal (entries_of output.form input) ≡ None
  refusal_none input wrong = ap output.refusal (entries_none input wrong) ∙ empty

  certain_none : (input : List ℕ) → output.form.opens input ≡ false → certain_answers output (entries_of output.form input) ≡ []
  certain_none input wrong = rw wrong refl

  -- nor is it there without the last byte
  magic_before : (t : List ℕ) → output.form.opens t ≡ false → output.form.opens (all_but_last t) ≡ false
  magic_before [] h = h
  magic_before (a ∷ []) h = is.opens_short [] (omega arith)
  magic_before (a ∷ b ∷ []) h = is.opens_short (a ∷ []) (omega arith)
  magic_before (a ∷ b ∷ c ∷ []) h = is.opens_short (a ∷ b ∷ []) (omega arith)
  magic_before (a ∷ b ∷ c ∷ d ∷ []) h = is.opens_short (a ∷ b ∷ c ∷ []) (omega arith)
  magic_before (a ∷ b ∷ c ∷ d ∷ e ∷ t) h =
      let four = a ∷ b ∷ c ∷ d ∷ [] in
      let more = e ∷ t in
      ap output.form.opens (but_last_after four more (omega arith)) ∙ is.opens_four four (all_but_last more) refl ∙ sym (is.opens_four four more refl) ∙ h

  -- nor is anything due without the last byte
  unclosed_before : (t : List ℕ) → output.form.opens t ≡ false → unclosed_answers output (all_but_last t) ≡ []
  unclosed_before t wrong = unclosed_none (all_but_last t) (magic_before t wrong)

  -- The magic isn't there.
  pub input_none : (e : ReadError) (w : Option (List ℕ)) (t r : List ℕ) → Opens output.form.opens (Err e) t r → InputLeaves output w w (Err (unread_input e)) t r
  input_none Broken w t r h = record {
    wrote = rw (answers_none t h.0) (nothing_written w);
    all = answers_none (t ++ r) h.1 ∙ sym (answers_none t h.0);
    broken = after_none (t ++ r) h.1;
    none = refusal_none (t ++ r) h.1;
    reached = inl (omega (arith, h.2));
    other_magic = λ _. h.2;
  }
  input_none Failed w t r h =
      record { wrote = rw (answers_none t h) (nothing_written w); unclosed = after_none t h; none = refusal_none t h }
  input_none NoMemory w t r h =
      record { out = []; wrote = nothing_written w; part = (unclosed_answers output t, refl); has = rw (certain_none t h) ([], refl); in_turn = rw (unclosed_before t h) ([], refl) }

  -- nothing is due for four bytes without the last
  unclosed_short : (t : List ℕ) → length t ≡ 4 → unclosed_answers output (all_but_last t) ≡ []
  unclosed_short t len =
      let three : length (all_but_last t) < 4 = omega (arith, len, length-take-le (length t - 1) t (omega arith)) in
      unclosed_none (all_but_last t) (is.opens_short (all_but_last t) three)

  -- The magic alone was read, and the answer's wasn't written whole.
  pub input_magic_alone : (old new : Option (List ℕ)) (out t r : List ℕ) → IsPrefix out output.magic → Wrote old new out → Opens output.form.opens (Ok tt) t r → InputLeaves output old new (Err WriteFailed) t r
  input_magic_alone old new out t r begins wrote h =
      let none = framing_empty output.form is 4294967295 in
      let all : unclosed_answers output t ≡ output.magic ++ output.records [] = ap (unclosed_answers output) (sym (append-nil t)) ∙ unclosed_after output t [] h.0 (h.1 []) ∙ ap (λ (f : Framing R). output.magic ++ output.records f.entries) none in
      let empty_entries : entries_of output.form t ≡ [] = ap (entries_of output.form) (sym (append-nil t)) ∙ entries_after output t [] h.0 (h.1 []) ∙ ap (λ (f : Framing R). f.entries) none in
      let certain : certain_answers output (entries_of output.form t) ≡ [] = ap (certain_answers output) empty_entries in
      record { out = out; wrote = wrote; part = rw all (prefix_extended out output.magic (output.records []) begins); has = rw certain (out, refl); in_turn = rw (unclosed_short t h.0) (out, refl) }

  -- the records that are certainly written come after the magic
  certain_after : (ps : List R) (o : List ℕ) → IsPrefix (output.records (all_but_last ps)) o → IsPrefix (certain_answers output ps) (output.magic ++ o)
  certain_after [] o h = (output.magic ++ o, refl)
  certain_after (p ∷ ps) o h = prefix_after output.magic (output.records (all_but_last (p ∷ ps))) o h

  -- what is due before the last byte comes after the magic too
  turn_after : (t u o : List ℕ) → length t ≡ 4 → ((tail : List ℕ) → output.form.opens (t ++ tail) ≡ true) → IsPrefix (output.records (framing output.form 4294967295 (all_but_last u)).entries) o → IsPrefix (unclosed_answers output (all_but_last (t ++ u))) (output.magic ++ o)
  turn_after t [] o len opens h = rw (append-nil t, unclosed_short t len) (output.magic ++ o, refl)
  turn_after t (x ∷ u) o len opens h =
      let cut = all_but_last (x ∷ u) in
      rw (but_last_after t (x ∷ u) (omega arith), unclosed_after output t cut len (opens cut)) (prefix_after output.magic (output.records (framing output.form 4294967295 cut).entries) o h)

module _ {R : Type 0} (output : Output R) (is : IsInputForm output.form) (empty : output.refusal [] ≡ None) (w0 w1 w2 : Option (List ℕ)) (t u s : List ℕ) (first : Wrote w0 w1 output.magic) (len : length t ≡ 4) (opens : (tail : List ℕ) → output.form.opens (t ++ tail) ≡ true) where
  after_all : answers output (t ++ u) ≡ output.magic ++ body_answers output 4294967295 u
  after_all = answers_after output t u len (opens u)

  wrote_after : Wrote w1 w2 (body_answers output 4294967295 u) → Wrote w0 w2 (answers output (t ++ u))
  wrote_after w = rw after_all (wrote_more w0 w1 w2 output.magic (body_answers output 4294967295 u) first w)

  input_all : body_answers output 4294967295 (u ++ s) ≡ body_answers output 4294967295 u → answers output ((t ++ u) ++ s) ≡ answers output (t ++ u)
  input_all e = ap (answers output) (append_assoc t u s) ∙ answers_after output t (u ++ s) len (opens (u ++ s)) ∙ ap (λ b. output.magic ++ b) e ∙ sym after_all

  input_after_closing : after_closing output.form ((t ++ u) ++ s) ≡ (framing output.form 4294967295 (u ++ s)).after
  input_after_closing = ap (after_closing output.form) (append_assoc t u s) ∙ closing_after output t (u ++ s) len (opens (u ++ s))

  input_entries : entries_of output.form ((t ++ u) ++ s) ≡ (framing output.form 4294967295 (u ++ s)).entries
  input_entries = ap (entries_of output.form) (append_assoc t u s) ∙ entries_after output t (u ++ s) len (opens (u ++ s))

  part_after : IsPartOfBody output 4294967295 w1 w2 u → IsPart output w0 w2 (t ++ u)
  part_after h = record {
    out = output.magic ++ h.out;
    wrote = wrote_more w0 w1 w2 output.magic h.out first h.wrote;
    part = rw (unclosed_after output t u len (opens u)) (prefix_after output.magic h.out (output.records (framing output.form 4294967295 u).entries) h.part);
    has = rw (entries_after output t u len (opens u)) (certain_after output is empty (framing output.form 4294967295 u).entries h.out h.has);
    in_turn = turn_after output is empty t u h.out len opens h.in_turn;
  }

  reached_after : StopsWithin (5 + size_of_all output.form (framing output.form 4294967295 u).entries) (FramesOneMore output.form 4294967295 (framing output.form 4294967295 u).entries) u s
      → StopsWithin (9 + size_of_all output.form (entries_of output.form (t ++ u))) (HasOneMore output.form (entries_of output.form (t ++ u))) (t ++ u) s
  reached_after h =
      let ps = (framing output.form 4294967295 u).entries in
      let more : (tail : List ℕ) → FramesOneMore output.form 4294967295 ps (u ++ tail) → HasOneMore output.form ps ((t ++ u) ++ tail) = λ tail w. (w.0, ap (entries_of output.form) (append_assoc t u tail) ∙ entries_after output t (u ++ tail) len (opens (u ++ tail)) ∙ w.1) in
      rw (entries_after output t u len (opens u)) (stops_more (4 + (5 + size_of_all output.form ps)) (9 + size_of_all output.form ps) (HasOneMore output.form ps) (t ++ u) s (omega arith)
      (stops_after 4 (5 + size_of_all output.form ps) (HasOneMore output.form ps) (FramesOneMore output.form 4294967295 ps) t u s (omega (arith, len)) more h))

  -- the magic is right, so it isn't another one
  not_other : output.form.opens ((t ++ u) ++ s) ≡ false → length (t ++ u) ≤ 4
  not_other e = cc (sym (opens (u ++ s)) ∙ ap output.form.opens (sym (append_assoc t u s)) ∙ e)

  -- what the records after the magic leave
  pub input_after : (ended : Result (Unit {0}) RunError) → BodyLeaves output 4294967295 w1 w2 ended u s → InputLeaves output w0 w2 ended (t ++ u) s
  input_after (Ok x) h = record {
    wrote = wrote_after h.0;
    all = input_all h.3;
    closed = closing_after output t u len (opens u) ∙ h.1;
    left = input_after_closing ∙ h.2;
    none = ap output.refusal input_entries ∙ h.4;
  }
  input_after (Err BrokenInput) h = record {
    wrote = wrote_after h.0;
    all = input_all h.3;
    broken = input_after_closing ∙ h.2;
    none = ap output.refusal input_entries ∙ h.5;
    reached = reached_after h.4;
    other_magic = not_other;
  }
  input_after (Err (Refused fault)) h = record {
    wrote = wrote_after h.0;
    all = input_all h.3;
    refused = ap output.refusal (entries_after output t u len (opens u)) ∙ h.1;
    first = ap output.refusal input_entries ∙ h.2;
  }
  input_after (Err ReadFailed) h = record {
    wrote = wrote_after h.0;
    unclosed = closing_after output t u len (opens u) ∙ h.1;
    none = ap output.refusal (entries_after output t u len (opens u)) ∙ h.2;
  }
  input_after (Err WriteFailed) h = part_after h
  input_after (Err OutOfMemory) h = part_after h
