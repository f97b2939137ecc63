-- What is counted of answers, one by one.
use Rattle.std.proofs.Common.{◌≡◌, ℕ, suc, ◌+◌, ◌≤◌, Bool, true, false, cond, List, [], ◌∷◌, length, Ok, Err, refl, sym, ap, ap₂, subst, ◌∙◌, arith}
use Rattle.std.specs.List.{filter, sum_by}
use Rattle.std.proofs.lemmas.List.Sums.{sum_by-cons}
use Rattle.record_frame.specs.Framing.{max_entries}
use Rattle.file_generator.specs.Files.{Generating, next_payload, after_payload, payloads_from, payloads, file}
use Rattle.file_generator.proofs.Framed.{file_framed}
use Rattle.frame_replay.specs.Answer.{ReplayState, accepted, next_state, start_state}
use Rattle.frame_replay.specs.Load.{TxnAnswer, answers_from, answers_to, is_frame, is_refusal, pixel_sum, drawn_sum, frame_sum, counts_of, with_frame, with_answer}
use Rattle.frame_replay.specs.declared.load.Counts.{Counts}

-- counts with those of more answers
abbrev pub counts_with : Counts → List TxnAnswer → Counts
counts_with c answers = record {
  frames = c.frames + length (filter is_frame answers);
  refused = c.refused + length (filter is_refusal answers);
  pixels = c.pixels + sum_by pixel_sum answers;
  drawn = c.drawn + sum_by drawn_sum answers;
}

counts_equal : (a b : Counts) → a.frames ≡ b.frames → a.refused ≡ b.refused → a.pixels ≡ b.pixels → a.drawn ≡ b.drawn → a ≡ b
counts_equal a b f r p d =
    ap (λ (n : ℕ). record { frames = n; refused = a.refused; pixels = a.pixels; drawn = a.drawn }) f ∙ ap (λ (n : ℕ). record { frames = b.frames; refused = n; pixels = a.pixels; drawn = a.drawn }) r
    ∙ ap (λ (n : ℕ). record { frames = b.frames; refused = b.refused; pixels = n; drawn = a.drawn }) p ∙ ap (λ (n : ℕ). record { frames = b.frames; refused = b.refused; pixels = b.pixels; drawn = n }) d

-- one answer more
answer_more : (c : Counts) (answer : TxnAnswer) (answers : List TxnAnswer) → counts_with (with_answer answer c) answers ≡ counts_with c (answer ∷ answers)
answer_more c (Err fault) answers =
    let p = sum_by-cons pixel_sum (Err fault) answers in
    let d = sum_by-cons drawn_sum (Err fault) answers in
    counts_equal _ _ refl (omega arith) (omega (arith, p)) (omega (arith, d))
answer_more c (Ok made) answers =
    by_frame made.frame
    ∙ ap₂ (λ (n m : ℕ). record { frames = frames_with made.frame; refused = c.refused + length (filter is_refusal answers); pixels = c.pixels + n; drawn = c.drawn + m })
    (sym (sum_by-cons pixel_sum (Ok made) answers)) (sym (sum_by-cons drawn_sum (Ok made) answers))
  where
    frames_with : Bool → ℕ
    frames_with b = c.frames + length (cond b (Ok made ∷ filter is_frame answers) (filter is_frame answers))

    by_frame : (b : Bool) → counts_with (cond b (with_frame made.drawn made.state.scene c) c) answers
        ≡ record { frames = frames_with b; refused = c.refused + length (filter is_refusal answers); pixels = c.pixels + (cond b (frame_sum made.state.scene) 0 + sum_by pixel_sum answers); drawn = c.drawn + (cond b made.drawn 0 + sum_by drawn_sum answers) }
    by_frame true = counts_equal _ _ (omega arith) refl (omega arith) (omega arith)
    by_frame false = counts_equal _ _ refl refl (omega arith) (omega arith)

-- the answers to the payloads from here on
abbrev pub answers_left : Generating → ℕ → ReplayState → List TxnAnswer
answers_left g left state = answers_from (payloads_from g.next left g.state) state

pub counted_more : (all : Counts) (c after : Counts) (g next : Generating) (payload : List ℕ) (state made : ReplayState) (n left : ℕ)
    → n ≡ suc left → payload ≡ next_payload g → next ≡ after_payload g → made ≡ next_state payload state → after ≡ with_answer (accepted payload state) c
    → counts_with c (answers_left g n state) ≡ all → counts_with after (answers_left next left made) ≡ all
counted_more all c after g next payload state made n left e p a m w h =
    let had : counts_with c (answers_left g (suc left) state) ≡ all = subst (λ (k : ℕ). counts_with c (answers_left g k state) ≡ all) e h in
    let here = next_payload g in
    let m2 : made ≡ next_state here state = m ∙ ap (λ (q : List ℕ). next_state q state) p in
    let w2 : after ≡ with_answer (accepted here state) c = w ∙ ap (λ (q : List ℕ). with_answer (accepted q state) c) p in
    ap (λ (x : Counts). counts_with x (answers_left next left made)) w2
    ∙ ap (λ (s : Generating). counts_with (with_answer (accepted here state) c) (answers_left s left made)) a
    ∙ ap (λ (s : ReplayState). counts_with (with_answer (accepted here state) c) (answers_left (after_payload g) left s)) m2
    ∙ answer_more c (accepted here state) (answers_left (after_payload g) left (next_state here state)) ∙ had

pub counted_all : (number count : ℕ) → counts_with (counts_of []) (answers_left (record { next = 0; state = number }) count start_state) ≡ counts_of (answers_from (payloads number count) start_state)
counted_all number count = counts_equal _ _ (omega arith) (omega arith) (omega arith) (omega arith)

pub counted_none : (all c : Counts) (g : Generating) (state : ReplayState) (left : ℕ) → left ≡ 0 → counts_with c (answers_left g left state) ≡ all → c ≡ all
counted_none all c g state left e h =
    let had : counts_with c (answers_left g 0 state) ≡ all = subst (λ (k : ℕ). counts_with c (answers_left g k state) ≡ all) e h in
    counts_equal c (counts_with c []) (omega arith) (omega arith) (omega arith) (omega arith) ∙ had

pub file_answers : (number count : ℕ) → count ≤ 100000 → counts_of (answers_from (payloads number count) start_state) ≡ counts_of (answers_to (file number count))
unfolding max_entries
file_answers number count le = ap (λ (ps : List (List ℕ)). counts_of (answers_from ps start_state)) (sym (file_framed number count (omega (arith, le))).entries)

-- one answer more counts at most one more
pub frames_grow : (answer : TxnAnswer) (c : Counts) → (with_answer answer c).frames ≤ c.frames + 1
frames_grow (Err fault) c = omega arith
frames_grow (Ok made) c = by_frame made.frame
  where
    by_frame : (b : Bool) → (cond b (with_frame made.drawn made.state.scene c) c).frames ≤ c.frames + 1
    by_frame true = omega arith
    by_frame false = omega arith

pub refused_grow : (answer : TxnAnswer) (c : Counts) → (with_answer answer c).refused ≤ c.refused + 1
refused_grow (Err fault) c = omega arith
refused_grow (Ok made) c = by_frame made.frame
  where
    by_frame : (b : Bool) → (cond b (with_frame made.drawn made.state.scene c) c).refused ≤ c.refused + 1
    by_frame true = omega arith
    by_frame false = omega arith
