-- The state that a generated file leads to, payload by payload.
use Rattle.std.proofs.Common.{◌≡◌, ℕ, suc, ◌≤◌, false, List, sym, ap, subst, ◌∙◌, arith}
use Rattle.record_frame.specs.Framing.{max_entries}
use Rattle.file_generator.specs.Files.{Generating, next_payload, after_payload, payloads_from, payloads, file}
use Rattle.file_generator.proofs.Framed.{file_framed}
use Rattle.frame_replay.specs.Answer.{ReplayState, next_state, start_state, state_after_all, state_after_file}

-- the state after the payloads from here on
abbrev pub state_left : Generating → ℕ → ReplayState → ReplayState
state_left g left state = state_after_all (payloads_from g.next left g.state) false state

pub state_more : (all : ReplayState) (g next : Generating) (payload : List ℕ) (state made : ReplayState) (n left : ℕ)
    → n ≡ suc left → payload ≡ next_payload g → next ≡ after_payload g → made ≡ next_state payload state → state_left g n state ≡ all → state_left next left made ≡ all
state_more all g next payload state made n left e p a m h =
    let had : state_left g (suc left) state ≡ all = subst (λ (k : ℕ). state_left g k state ≡ all) e h in
    let here : made ≡ next_state (next_payload g) state = m ∙ ap (λ (q : List ℕ). next_state q state) p in
    ap (λ (s : Generating). state_left s left made) a ∙ ap (λ (s : ReplayState). state_left (after_payload g) left s) here ∙ had

pub state_none : (all : ReplayState) (g : Generating) (state : ReplayState) (left : ℕ) → left ≡ 0 → state_left g left state ≡ all → state ≡ all
state_none all g state left e h = subst (λ (k : ℕ). state_left g k state ≡ all) e h

pub file_state : (number count : ℕ) → count ≤ 100000 → state_after_all (payloads number count) false start_state ≡ state_after_file (file number count) false
unfolding max_entries
file_state number count le = ap (λ (ps : List (List ℕ)). state_after_all ps false start_state) (sym (file_framed number count (omega (arith, le))).entries)
