-- Steps of a command, one after another, and how they end.
use Rattle.std.proofs.Common.{◌≡◌, ℕ, zero, suc, ◌+◌, ◌-◌, ◌<◌, List, [], ◌∷◌, ◌++◌, Bool, true, Option, Some, None, Result, Ok, Err, length, nat_lt, refl, sym, ap, ◌∙◌, arith, append_assoc, append-nil, length-append}
use Rattle.wr_io.specs.declared.fault.Fault.{Fault}
use Rattle.record_frame.specs.Errors.{unread_input, unanswered_input}
use Rattle.record_frame.specs.Framing.{FirstRecord, entry, broken, InputForm, IsInputForm, Framing, framing, size_of_all}
use Rattle.record_frame.specs.Answers.{AnswerRule, AnswersBy, output_from, unless, or_else, records_from, first_refusal, state_after, closing_mark}
use Rattle.record_frame.specs.Reading.{StopsWithin, IsEntry, Decides}
use Rattle.record_frame.specs.Writing.{Wrote, IsPrefix, all_but_last}
use Rattle.record_frame.specs.Steps.{FoundRecord, nothing, whole, close, answer_to, StepLeaves, with_entries, Progress, body_answers, IsPartOfBody, FramesOneMore, BodyLeaves}
use Rattle.record_frame.specs.declared.records.StepEnd.TheVariants.{Answered, Closed}
use Rattle.record_frame.specs.declared.error.ReadError.{ReadError}
use Rattle.record_frame.specs.declared.error.ReadError.TheVariants.{Broken, Failed, NoMemory}
use Rattle.record_frame.specs.declared.error.AnswerError.{AnswerError}
use Rattle.record_frame.specs.declared.error.AnswerError.TheVariants as answering
use Rattle.record_frame.specs.declared.error.RunError.{RunError}
use Rattle.record_frame.specs.declared.error.RunError.TheVariants.{BrokenInput, Refused, ReadFailed, WriteFailed, OutOfMemory}
use Rattle.record_frame.proofs.Takings.{stops_more, stops_after}
use Rattle.record_frame.proofs.Writing.{nothing_written, wrote_more, prefix_after, prefix_extended, but_last_prefix, but_last_after, but_last}
use Rattle.record_frame.proofs.Rules.{records-append, refusal-append, records_last, refusal_last, state_last, records_prefix}
use Rattle.record_frame.proofs.Framings.{framing_more, framing_close, framing_none, framing_whole, framing_first, no_entries, entries_stay, cut_first, size_of_all_last}

module _ {R S : Type 0} (form : InputForm R) (is : IsInputForm form) (rule : AnswerRule R S) where
  -- the records for bytes without their last one begin those for all
  records_before : (n : ℕ) (bytes : List ℕ) (s : S) → IsPrefix (records_from rule s (framing form n (all_but_last bytes)).entries) (records_from rule s (framing form n bytes).entries)
  records_before n bytes s =
      let cut = but_last_prefix bytes in
      let stay = entries_stay form is n (all_but_last bytes) cut.0 in
      records_prefix rule (framing form n (all_but_last bytes)).entries (framing form n bytes).entries s (stay.0, ap (λ l. (framing form n l).entries) cut.1 ∙ stay.1)

  -- ---- what a command has done

  -- A command begins.
  pub progress_start : (all : ℕ) (state : S) (w : Option (List ℕ)) (rest : List ℕ) → Progress form rule all all state state w w [] rest
  progress_start all state w rest =
      record { done = []; steps = λ tail. refl; size = refl; state = refl; none = refl; wrote = nothing_written w }

  -- One more entry was answered.
  pub progress_more : (all n : ℕ) (start mid next : S) (w0 w1 w2 : Option (List ℕ)) (t r u s : List ℕ) → r ≡ u ++ s
      → Progress form rule all (suc n) start mid w0 w1 t r → StepLeaves form rule true mid next w1 w2 (Ok Answered) u s → Progress form rule all n start next w0 w2 (t ++ u) s
  progress_more all n start mid next w0 w1 w2 t r u s split p h = record {
    done = p.done ++ h.0 ∷ [];
    steps = λ tail.
        ap (framing form all) (append_assoc t u tail) ∙ p.steps (u ++ tail) ∙ ap (with_entries p.done) (framing_more form is n (u ++ tail) h.0 tail (h.1 tail))
        ∙ ap (λ ps. record { entries = ps; after = (framing form n tail).after }) (sym (append_assoc p.done (h.0 ∷ []) (framing form n tail).entries));
    size =
        let size = is.whole true u h.0 [] (ap (form.first true) (sym (append-nil u)) ∙ h.1 []) in
        omega (arith, length-append t u, p.size, size, size_of_all_last form is p.done h.0);
    state = h.3 ∙ ap (rule.next h.0) p.state ∙ sym (state_last rule p.done h.0 start);
    none = refusal_last rule p.done h.0 start p.none ∙ ap (λ s. or_else (rule.refusal h.0 s) None) (sym p.state) ∙ ap (λ o. or_else o None) h.2;
    wrote =
        let same = records_last rule p.done h.0 start p.none ∙ ap (λ s. records_from rule start p.done ++ unless (rule.refusal h.0 s) (rule.record_of h.0 s)) (sym p.state) ∙ ap (λ o. records_from rule start p.done ++ unless o (rule.record_of h.0 mid)) h.2 in
        rw same (wrote_more w0 w1 w2 (records_from rule start p.done) (rule.record_of h.0 mid) p.wrote h.4);
  }

  -- the same where so many were left
  pub progress_on : (all n : ℕ) (start mid next : S) (w0 w1 w2 : Option (List ℕ)) (t r u s : List ℕ) → r ≡ u ++ s → nat_lt 0 n ≡ true
      → Progress form rule all n start mid w0 w1 t r → StepLeaves form rule (nat_lt 0 n) mid next w1 w2 (Ok Answered) u s → Progress form rule all (n - 1) start next w0 w2 (t ++ u) s
  progress_on all zero start mid next w0 w1 w2 t r u s split some p h = cc some
  progress_on all (suc n) start mid next w0 w1 w2 t r u s split some p h =
      let e : suc n - 1 ≡ n = omega arith in
      rw e (progress_more all n start mid next w0 w1 w2 t r u s split p (rw some at h))

module _ {R S : Type 0} (form : InputForm R) (is : IsInputForm form) (rule : AnswerRule R S) (all n : ℕ) (start mid : S) (w0 w1 w2 : Option (List ℕ)) (t r u s : List ℕ) (split : r ≡ u ++ s) (p : Progress form rule all n start mid w0 w1 t r) where
  -- the framing of what was taken and of what may follow it, from the first record after the entries so far
  framed_as : (tail : List ℕ) (f : Framing R) → framing form n (u ++ tail) ≡ f → framing form all ((t ++ u) ++ tail) ≡ with_entries p.done f
  framed_as tail f e = ap (framing form all) (append_assoc t u tail) ∙ p.steps (u ++ tail) ∙ ap (with_entries p.done) e

  framed_so : (f : Framing R) → framing form n u ≡ f → framing form all (t ++ u) ≡ with_entries p.done f
  framed_so f e =
      ap (framing form all) (sym (append-nil (t ++ u))) ∙ framed_as [] f (ap (framing form n) (append-nil u) ∙ e)

  -- the answers to a framing
  pub answered_as : (bytes : List ℕ) (f : Framing R) → framing form all bytes ≡ f → body_answers (output_from form [] rule start) all bytes ≡ records_from rule start f.entries ++ closing_mark (first_refusal rule start f.entries) f.after
  answered_as bytes f e = ap (λ (g : Framing R). records_from rule start g.entries ++ closing_mark (first_refusal rule start g.entries) g.after) e

  -- nothing is refused so far
  none_nil : first_refusal rule start (p.done ++ []) ≡ None
  none_nil = ap (first_refusal rule start) (append-nil p.done) ∙ p.none

  none_in : (bytes : List ℕ) (after : Option (List ℕ)) → framing form all bytes ≡ record { entries = p.done ++ []; after = after } → first_refusal rule start (framing form all bytes).entries ≡ None
  none_in bytes after e = ap (λ (g : Framing R). first_refusal rule start g.entries) e ∙ none_nil

  answered_none : (bytes : List ℕ) (after : Option (List ℕ)) → framing form all bytes ≡ record { entries = p.done ++ []; after = after } → body_answers (output_from form [] rule start) all bytes ≡ records_from rule start p.done ++ closing_mark None after
  answered_none bytes after e =
      answered_as bytes (record { entries = p.done ++ []; after = after }) e ∙ ap (λ o. records_from rule start (p.done ++ []) ++ closing_mark o after) none_nil ∙ ap (λ l. records_from rule start l ++ closing_mark None after) (append-nil p.done)

  -- The closing byte was answered.
  pub body_closed : (next : S) → StepLeaves form rule (nat_lt 0 n) mid next w1 w2 (Ok Closed) u s → BodyLeaves (output_from form [] rule start) all w0 w2 (Ok tt) (t ++ u) s
  body_closed next h =
      let one : framing form all (t ++ u) ≡ record { entries = p.done ++ []; after = Some [] } = framed_so (record { entries = []; after = Some [] }) (ap (framing form n) (sym (append-nil u)) ∙ framing_close form is n (u ++ []) [] (h.0 [])) in
      let whole_input : framing form all ((t ++ u) ++ s) ≡ record { entries = p.done ++ []; after = Some s } = framed_as s (record { entries = []; after = Some s }) (framing_close form is n (u ++ s) s (h.0 s)) in
      let body = answered_none (t ++ u) (Some []) one in (
        rw body (wrote_more w0 w1 w2 (records_from rule start p.done) (90 ∷ []) p.wrote h.1),
        ap (λ g. g.after) one,
        ap (λ g. g.after) whole_input,
        answered_none ((t ++ u) ++ s) (Some s) whole_input ∙ sym body,
        none_in ((t ++ u) ++ s) (Some s) whole_input,
      )

  -- An entry was refused.
  refused_in : (bytes : List ℕ) (q : R) (fault : Fault) (qs : List R) (after : Option (List ℕ)) → rule.refusal q mid ≡ Some fault → framing form all bytes ≡ record { entries = p.done ++ q ∷ qs; after = after }
      → (first_refusal rule start (framing form all bytes).entries ≡ Some fault) × (body_answers (output_from form [] rule start) all bytes ≡ records_from rule start p.done)
  refused_in bytes q fault qs after r e =
      let at : rule.refusal q (state_after rule p.done start) ≡ Some fault = ap (rule.refusal q) (sym p.state) ∙ r in
      let first : first_refusal rule start (p.done ++ q ∷ qs) ≡ Some fault = refusal-append rule p.done (q ∷ qs) start ∙ ap (λ o. or_else o (first_refusal rule (state_after rule p.done start) (q ∷ qs))) p.none ∙ ap (λ o. or_else o (first_refusal rule (rule.next q (state_after rule p.done start)) qs)) at in
      let records : records_from rule start (p.done ++ q ∷ qs) ≡ records_from rule start p.done ++ [] = records-append rule p.done (q ∷ qs) start p.none ∙ ap (λ o. records_from rule start p.done ++ unless o (rule.record_of q (state_after rule p.done start) ++ records_from rule (rule.next q (state_after rule p.done start)) qs)) at in (
        ap (λ (g : Framing R). first_refusal rule start g.entries) e ∙ first,
        answered_as bytes (record { entries = p.done ++ q ∷ qs; after = after }) e ∙ ap (λ o. records_from rule start (p.done ++ q ∷ qs) ++ closing_mark o after) first ∙ append-nil (records_from rule start (p.done ++ q ∷ qs)) ∙ records ∙ append-nil (records_from rule start p.done),
      )

  pub body_refused : (fault : Fault) (next : S) → StepLeaves form rule (nat_lt 0 n) mid next w1 w2 (Err (Refused fault)) u s → BodyLeaves (output_from form [] rule start) all w0 w2 (Err (Refused fault)) (t ++ u) s
  body_refused fault next h =
      let whole_entry : form.first (nat_lt 0 n) u ≡ entry h.0 [] = ap (form.first (nat_lt 0 n)) (sym (append-nil u)) ∙ h.1 [] in
      let one = framed_so (record { entries = h.0 ∷ []; after = None }) (framing_whole form is n u h.0 whole_entry) in
      let more = framing_first form is n (u ++ s) h.0 s (h.1 s) in
      let whole_input = framed_as s (record { entries = h.0 ∷ more.0.entries; after = more.0.after }) more.1 in
      let here = refused_in (t ++ u) h.0 fault [] None h.2 one in
      let there = refused_in ((t ++ u) ++ s) h.0 fault more.0.entries more.0.after h.2 whole_input in (
        rw (here.1, ← append-nil (records_from rule start p.done)) (wrote_more w0 w1 w2 (records_from rule start p.done) [] p.wrote h.3),
        here.0,
        there.0,
        there.1 ∙ sym here.1,
      )

  -- No whole record was taken after the entries so far.
  nothing_more : form.first (nat_lt 0 n) u ≡ broken → framing form all (t ++ u) ≡ record { entries = p.done ++ []; after = None }
  nothing_more h = framed_so (record { entries = []; after = None }) (framing_none form is n u h)

  wrote_all : form.first (nat_lt 0 n) u ≡ broken → Wrote w1 w2 [] → Wrote w0 w2 (body_answers (output_from form [] rule start) all (t ++ u))
  wrote_all h w =
      rw (answered_none (t ++ u) None (nothing_more h)) (wrote_more w0 w1 w2 (records_from rule start p.done) [] p.wrote w)

  -- so many bytes were taken to see it, or an entry more was cut off
  stopped_within : framing form all (t ++ u) ≡ record { entries = p.done ++ []; after = None } → StopsWithin 5 (IsEntry (form.first (nat_lt 0 n))) u s
      → StopsWithin (5 + size_of_all form (framing form all (t ++ u)).entries) (FramesOneMore form all (framing form all (t ++ u)).entries) (t ++ u) s
  stopped_within one h =
      let done : (framing form all (t ++ u)).entries ≡ p.done = ap (λ g. g.entries) one ∙ append-nil p.done in
      let more : (tail : List ℕ) → IsEntry (form.first (nat_lt 0 n)) (u ++ tail) → FramesOneMore form all p.done ((t ++ u) ++ tail) = λ tail w. (w.0, ap (λ g. g.entries) (framed_as tail (record { entries = w.0 ∷ []; after = None }) (framing_whole form is n (u ++ tail) w.0 w.1))) in
      rw done (stops_more (size_of_all form p.done + 5) (5 + size_of_all form p.done) (FramesOneMore form all p.done) (t ++ u) s (omega arith)
      (stops_after (size_of_all form p.done) 5 (FramesOneMore form all p.done) (IsEntry (form.first (nat_lt 0 n))) t u s (omega (arith, p.size)) more h))

  -- The framing is broken.
  pub body_broken : (next : S) → StepLeaves form rule (nat_lt 0 n) mid next w1 w2 (Err BrokenInput) u s → BodyLeaves (output_from form [] rule start) all w0 w2 (Err BrokenInput) (t ++ u) s
  body_broken next h =
      let one = nothing_more h.0 in
      let whole_input : framing form all ((t ++ u) ++ s) ≡ record { entries = p.done ++ []; after = None } = framed_as s (record { entries = []; after = None }) (framing_none form is n (u ++ s) h.1) in (
        wrote_all h.0 h.3,
        ap (λ g. g.after) one,
        ap (λ g. g.after) whole_input,
        answered_none ((t ++ u) ++ s) None whole_input ∙ sym (answered_none (t ++ u) None one),
        stopped_within one h.2,
        none_in ((t ++ u) ++ s) None whole_input,
      )

  -- A read failed.
  pub body_read_failed : (next : S) → StepLeaves form rule (nat_lt 0 n) mid next w1 w2 (Err ReadFailed) u s → BodyLeaves (output_from form [] rule start) all w0 w2 (Err ReadFailed) (t ++ u) s
  body_read_failed next h =
      (wrote_all h.0 h.1, ap (λ g. g.after) (nothing_more h.0), none_in (t ++ u) None (nothing_more h.0))

  -- A write failed, or memory ran out: a part was written.
  part_of : (f : Framing R) (o part : List ℕ) → framing form all (t ++ u) ≡ f → IsPrefix part o → Wrote w1 w2 part → records_from rule start f.entries ≡ records_from rule start p.done ++ o
      → IsPrefix (records_from rule start (all_but_last f.entries)) (records_from rule start p.done) → IsPrefix (records_from rule start (framing form all (all_but_last (t ++ u))).entries) (records_from rule start p.done)
      → IsPartOfBody (output_from form [] rule start) all w0 w2 (t ++ u)
  part_of f o part e begins w same due before = record {
    out = records_from rule start p.done ++ part;
    wrote = wrote_more w0 w1 w2 (records_from rule start p.done) part p.wrote w;
    part = rw (e, same) (prefix_after (records_from rule start p.done) part o begins);
    has = rw e (prefix_extended (records_from rule start (all_but_last f.entries)) (records_from rule start p.done) part due);
    in_turn = prefix_extended (records_from rule start (framing form all (all_but_last (t ++ u))).entries) (records_from rule start p.done) part before;
  }

  -- the part where no entry more was taken
  part_same : (after : Option (List ℕ)) (part : List ℕ) → framing form all (t ++ u) ≡ record { entries = p.done ++ []; after = after } → IsPrefix part [] → Wrote w1 w2 part → IsPartOfBody (output_from form [] rule start) all w0 w2 (t ++ u)
  part_same after part one begins w =
      let done : (framing form all (t ++ u)).entries ≡ p.done = ap (λ g. g.entries) one ∙ append-nil p.done in
      part_of (record { entries = p.done ++ []; after = after }) [] part one begins w (ap (records_from rule start) (append-nil p.done) ∙ sym (append-nil (records_from rule start p.done)))
      (rw (append-nil p.done) (records_prefix rule (all_but_last p.done) p.done start (but_last_prefix p.done)))
      (rw done at (records_before form is rule all (t ++ u) start))

  -- Without its last byte no entry more was taken.
  before_whole : (q : R) → form.first (nat_lt 0 n) u ≡ entry q [] → IsPrefix (records_from rule start (framing form all (all_but_last (t ++ u))).entries) (records_from rule start p.done)
  before_whole q e =
      let some : 0 < length u = omega (arith, is.whole (nat_lt 0 n) u q [] e, is.some (nat_lt 0 n) u q [] e) in
      let none = no_entries form is n (all_but_last u) (λ x y h. cut_first form is (nat_lt 0 n) u q x y e h) in
      let done : (framing form all (all_but_last (t ++ u))).entries ≡ p.done =
      ap (λ l. (framing form all l).entries) (but_last_after t u some) ∙ ap (λ g. g.entries) (p.steps (all_but_last u)) ∙ ap (λ ps. p.done ++ ps) none ∙ append-nil p.done in
      rw done ([], sym (append-nil (records_from rule start p.done)))

  part_found : (found : FoundRecord form (nat_lt 0 n) u) (part : List ℕ) → IsPrefix part (answer_to rule found mid) → Wrote w1 w2 part → IsPartOfBody (output_from form [] rule start) all w0 w2 (t ++ u)
  part_found (nothing e) part begins w = part_same None part (nothing_more e) begins w
  part_found (whole q e) part begins w =
      let one = framed_so (record { entries = q ∷ []; after = None }) (ap (framing form n) (sym (append-nil u)) ∙ framing_whole form is n (u ++ []) q (e [])) in
      part_of (record { entries = p.done ++ q ∷ []; after = None }) (unless (rule.refusal q mid) (rule.record_of q mid)) part one begins w
      (records_last rule p.done q start p.none ∙ ap (λ s. records_from rule start p.done ++ unless (rule.refusal q s) (rule.record_of q s)) (sym p.state))
      (rw (but_last p.done q) ([], sym (append-nil (records_from rule start p.done))))
      (before_whole q (ap (form.first (nat_lt 0 n)) (sym (append-nil u)) ∙ e []))
  part_found (close e) part begins w =
      let one = framed_so (record { entries = []; after = Some [] }) (ap (framing form n) (sym (append-nil u)) ∙ framing_close form is n (u ++ []) [] (e [])) in
      part_same (Some []) part one begins w

  -- the end of a step with an error, whatever it was
  pub body_ends : (e : RunError) (next : S) → StepLeaves form rule (nat_lt 0 n) mid next w1 w2 (Err e) u s → BodyLeaves (output_from form [] rule start) all w0 w2 (Err e) (t ++ u) s
  body_ends BrokenInput next h = body_broken next h
  body_ends (Refused fault) next h = body_refused fault next h
  body_ends ReadFailed next h = body_read_failed next h
  body_ends WriteFailed next h = part_found h.found h.out h.part h.wrote
  body_ends OutOfMemory next h = part_found h.found h.out h.part h.wrote

-- A record that wasn't read ends a step, and nothing is written.
pub step_unread : {R S : Type 0} (form : InputForm R) (rule : AnswerRule R S) (is_allowed : Bool) (state : S) (w : Option (List ℕ)) {H : Type 0} (found : H → List ℕ → FirstRecord R) (e : ReadError) (t r : List ℕ)
    → Decides 5 (form.first is_allowed) found (Err e) t r → StepLeaves form rule is_allowed state state w w (Err (unread_input e)) t r
step_unread form rule is_allowed state w found Broken t r q = (q.0, q.1, q.2, nothing_written w)
step_unread form rule is_allowed state w found Failed t r q = (q, nothing_written w)
step_unread form rule is_allowed state w found NoMemory t r q =
    record { found = nothing q; out = []; part = ([], refl); wrote = nothing_written w }

-- An entry that is refused, or finds no memory, ends a step, and nothing is written.
pub step_unanswered : {R S : Type 0} (form : InputForm R) (rule : AnswerRule R S) (is_allowed : Bool) (state next : S) (w : Option (List ℕ)) (r : R) (bytes : List ℕ) (e : AnswerError) (t s : List ℕ)
    → AnswersBy rule r state next bytes (Err e) → ((tail : List ℕ) → form.first is_allowed (t ++ tail) ≡ entry r tail) → StepLeaves form rule is_allowed state next w w (Err (unanswered_input e)) t s
step_unanswered form rule is_allowed state next w r bytes (answering.Refused fault) t s a q = (r, q, a, nothing_written w)
step_unanswered form rule is_allowed state next w r bytes answering.NoMemory t s a q =
    record { found = whole r q; out = []; part = (unless (rule.refusal r state) (rule.record_of r state), refl); wrote = nothing_written w }

-- The magic is no part of what the records leave.
pub body_with : {R S : Type 0} (form : InputForm R) (magic : List ℕ) (rule : AnswerRule R S) (start : S) (all : ℕ) (w0 w1 : Option (List ℕ)) (ended : Result (Unit {0}) RunError) (t r : List ℕ)
    → BodyLeaves (output_from form [] rule start) all w0 w1 ended t r → BodyLeaves (output_from form magic rule start) all w0 w1 ended t r
body_with form magic rule start all w0 w1 (Ok x) t r h = h
body_with form magic rule start all w0 w1 (Err BrokenInput) t r h = h
body_with form magic rule start all w0 w1 (Err (Refused fault)) t r h = h
body_with form magic rule start all w0 w1 (Err ReadFailed) t r h = h
body_with form magic rule start all w0 w1 (Err WriteFailed) t r h = record { out = h.out; wrote = h.wrote; part = h.part; has = h.has; in_turn = h.in_turn }
body_with form magic rule start all w0 w1 (Err OutOfMemory) t r h = record { out = h.out; wrote = h.wrote; part = h.part; has = h.has; in_turn = h.in_turn }
