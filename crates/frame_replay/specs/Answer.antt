-- The record that answers a transaction, and what `replay` writes.
use Rattle.std.specs.Prelude.{ℕ, List, [], ◌∷◌, ◌++◌, codes, length, Bool, Option, Some, None, Result, Ok, Err, if◌then◌else◌}
use Rattle.std.specs.Int.{to_le_bytes, w64}
use Rattle.wr_io.specs.Codes.{code_number}
use Rattle.wr_io.specs.declared.fault.Code.{Code}
use Rattle.wr_io.specs.declared.fault.Fault.{Fault}
use Rattle.field_forms.specs.Form.{next}
use Rattle.field_forms.specs.Spelling.{u32_bytes}
use Rattle.txn_format.specs.Grammar.{txn_at}
use Rattle.txn_format.specs.Txn.{TxnModel}
use Rattle.record_frame.specs.Transactions.{transactions}
use Rattle.record_frame.specs.Answers.{AnswerRule, Output, output_from, state_after}
use Rattle.record_frame.specs.Framing.{entries_of}
use Rattle.tile_store.specs.StoreModel.{opened_after}
use Rattle.tile_compositor.specs.FrameModel.{FrameModel}
use Rattle.kept_tiles.specs.Tiles.{kept_of}
use Rattle.kept_tiles.specs.Work.{Records, Work, records_of}
use Rattle.scene_state.specs.SceneModel.{SceneModel, start}
use Rattle.scene_state.specs.Limits.{next_scene}
use Rattle.renderer.specs.Drops.{tiles_left}
use Rattle.renderer.specs.Frames.{work_of_frame}
use Rattle.renderer.specs.RendererModel.{RendererModel}
use Rattle.frame_replay.specs.Frame.{FramePixels, frame_record, plane_pixels, scene_pixels}

-- what is kept between transactions: the scene, the last generation that was given, the records of kept tiles, how many
-- pixels of tiles were drawn so far, and the last frame, once there was one
pub record ReplayState : Type 0 where
  pub scene : SceneModel
  pub last : ℕ
  pub kept : Records
  pub opened : ℕ
  pub frame : Option FramePixels

abbrev pub start_state : ReplayState
start_state = record { scene = start; last = 0; kept = []; opened = 0; frame = None }

-- what a frame shows, where there is one
abbrev pub pixels_of : Option FrameModel → Option FramePixels
pixels_of None = None
pixels_of (Some frame) = Some (plane_pixels frame.planes)

-- what a renderer keeps
abbrev pub state_of : RendererModel → ReplayState
state_of r = record { scene = r.scene; last = r.last; kept = records_of (kept_of r.kept); opened = r.kept.store.opened; frame = pixels_of r.frame }

-- what a transaction makes that isn't refused: whether it asks for a frame, how many pixels of tiles the frame costs, and the state after it
pub record Accepted : Type 0 where
  pub frame : Bool
  pub drawn : ℕ
  pub state : ReplayState

-- the work of a frame where one is asked for, over the tiles that are left
abbrev pub work_after : Bool → SceneModel → Records → Work
work_after frame scene kept = if frame then work_of_frame scene kept else record { kept = kept; cost = 0 }

-- the state after a transaction that makes this scene, does this work, and asks for a frame or not
abbrev pub state_with : Bool → SceneModel × ℕ → Work → ReplayState → ReplayState
state_with frame made work state = record {
  scene = made.0;
  last = made.1;
  kept = work.kept;
  opened = if frame then opened_after state.opened work.cost else state.opened;
  frame = if frame then Some (scene_pixels made.0) else state.frame;
}

abbrev pub accepted_with : Bool → SceneModel × ℕ → Work → ReplayState → Accepted
accepted_with frame made work state = record { frame = frame; drawn = work.cost; state = state_with frame made work state }

-- what a transaction makes whose next scene this is
abbrev pub accepted_by : TxnModel → ReplayState → SceneModel × ℕ → Accepted
accepted_by txn state made = accepted_with txn.frame made (work_after txn.frame made.0 (tiles_left txn state.scene.policy state.kept)) state

-- what a transaction makes, or its first fault
abbrev pub applied : ReplayState → TxnModel → Result Accepted Fault
applied state txn = next (next_scene txn state.scene state.last) (λ made. Ok (accepted_by txn state made))

-- what the transaction makes that a payload spells, or the first fault: the payload's, or else that of its operations
-- and of the scene that they make
abbrev pub accepted : List ℕ → ReplayState → Result Accepted Fault
accepted payload state = next (txn_at payload) (applied state)

-- the record of a refusal, with its code and its position
abbrev pub refusal_record : Code → ℕ → List ℕ
refusal_record code at = 88 ∷ (code_number code ∷ u32_bytes at)

-- the record of what a frame took: how many tiles are kept after it, and how many pixels were drawn
abbrev pub stats_record : ℕ → ℕ → List ℕ
stats_record tiles drawn = 83 ∷ (u32_bytes tiles ++ to_le_bytes w64 drawn)

-- the record of a scene's frame, and with stats that of what it took
abbrev pub framed_record : Bool → ℕ → ℕ → SceneModel → List ℕ
framed_record stats tiles drawn s = frame_record s ++ (if stats then stats_record tiles drawn else [])

-- a frame where one is asked for, or else A
abbrev pub accepted_record : Bool → Accepted → List ℕ
accepted_record stats made = if made.frame then framed_record stats (length made.state.kept) made.drawn made.state.scene else 65 ∷ []

-- a refusal, a frame where one is asked for, or else that the transaction is accepted
abbrev pub record_for : Bool → Result Accepted Fault → List ℕ
record_for stats (Err fault) = refusal_record fault.code fault.at
record_for stats (Ok made) = accepted_record stats made

-- the state after a transaction; a refused one leaves it
abbrev pub state_for : Result Accepted Fault → ReplayState → ReplayState
state_for (Err fault) state = state
state_for (Ok made) state = made.state

abbrev pub record_of : Bool → List ℕ → ReplayState → List ℕ
record_of stats payload state = record_for stats (accepted payload state)

abbrev pub next_state : List ℕ → ReplayState → ReplayState
next_state payload state = state_for (accepted payload state) state

-- how payloads are answered by frames, with or without what they took: none is refused with a status of its own
abbrev pub replaying : AnswerRule (List ℕ) (Bool × ReplayState)
replaying = record {
  record_of = λ payload s. record_of s.0 payload s.1;
  next = λ payload s. (s.0, next_state payload s.1);
  refusal = λ _ _. None;
}

-- what `replay` writes for the records after a magic
abbrev pub body_replayed : Bool → Output (List ℕ)
body_replayed stats = output_from transactions [] replaying (stats, start_state)

-- what `replay` writes, with or without what frames took
abbrev pub replayed : Bool → Output (List ℕ)
replayed stats = output_from transactions (codes "WRF1") replaying (stats, start_state)

-- the state after payloads
abbrev pub state_after_all : List (List ℕ) → Bool → ReplayState → ReplayState
state_after_all payloads stats state = (state_after replaying payloads (stats, state)).1

-- the state after the whole transactions of a file
abbrev pub state_after_file : List ℕ → Bool → ReplayState
state_after_file input stats = state_after_all (entries_of transactions input) stats start_state
