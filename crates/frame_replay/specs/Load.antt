-- What `load` writes: a summary of the answers to a generated file.
use Rattle.std.specs.Prelude.{◌≡◌, ℕ, ◌+◌, ◌<◌, ◌^◌, List, [], ◌∷◌, ◌++◌, length, sum, codes, decimal, Bool, true, false, if◌then◌else◌, Option, Result, Ok, Err}
use Rattle.std.specs.List.{filter, flat_map, sum_by}
use Rattle.wr_io.specs.declared.fault.Fault.{Fault}
use Rattle.blend_rules.specs.Colour.{colour_bytes}
use Rattle.record_frame.specs.Framing.{entries_of}
use Rattle.record_frame.specs.Transactions.{transactions}
use Rattle.record_frame.specs.Writing.{IsPrefix, Wrote}
use Rattle.file_generator.specs.Files.{file}
use Rattle.frame_replay.specs.declared.load.Counts.{Counts}
use Rattle.scene_state.specs.SceneModel.{SceneModel}
use Rattle.frame_replay.specs.Frame.{view_pixels}
use Rattle.frame_replay.specs.Answer.{Accepted, ReplayState, accepted, next_state, start_state}

-- the answer to a transaction: what it makes, or why it is refused
abbrev pub TxnAnswer : Type 0
TxnAnswer = Result Accepted Fault

-- the answers to payloads, from a state on
abbrev pub answers_from : List (List ℕ) → ReplayState → List TxnAnswer
answers_from [] state = []
answers_from (payload ∷ payloads) state = accepted payload state ∷ answers_from payloads (next_state payload state)

-- the answers to a file of transactions
abbrev pub answers_to : List ℕ → List TxnAnswer
answers_to input = answers_from (entries_of transactions input) start_state

-- whether a frame answers
abbrev pub is_frame : TxnAnswer → Bool
is_frame (Err fault) = false
is_frame (Ok made) = made.frame

-- whether a refusal answers
abbrev pub is_refusal : TxnAnswer → Bool
is_refusal (Err fault) = true
is_refusal (Ok made) = false

-- the sum of the bytes of the pixels of a scene's frame
abbrev pub frame_sum : SceneModel → ℕ
frame_sum s = sum (flat_map colour_bytes (view_pixels s))

-- the sum of the bytes of an answer's pixels
abbrev pub pixel_sum : TxnAnswer → ℕ
pixel_sum (Err fault) = 0
pixel_sum (Ok made) = if made.frame then frame_sum made.state.scene else 0

-- the pixels of tiles that an answer's frame costs
abbrev pub drawn_sum : TxnAnswer → ℕ
drawn_sum (Err fault) = 0
drawn_sum (Ok made) = if made.frame then made.drawn else 0

-- how many answers are frames, how many are refusals, the sum of the bytes of all pixels, and that of what frames cost
abbrev pub counts_of : List TxnAnswer → Counts
counts_of answers = record {
  frames = length (filter is_frame answers);
  refused = length (filter is_refusal answers);
  pixels = sum_by pixel_sum answers;
  drawn = sum_by drawn_sum answers;
}

-- counts with the frame of a scene, which cost so many pixels of tiles
abbrev pub with_frame : ℕ → SceneModel → Counts → Counts
with_frame drawn s c = record { frames = c.frames + 1; refused = c.refused; pixels = c.pixels + frame_sum s; drawn = c.drawn + drawn }

-- counts with one answer more
abbrev pub with_answer : TxnAnswer → Counts → Counts
with_answer (Err fault) c = record { frames = c.frames; refused = c.refused + 1; pixels = c.pixels; drawn = c.drawn }
with_answer (Ok made) c = if made.frame then with_frame made.drawn made.state.scene c else c

-- one answer more can be counted
pub record HasRoom (c : Counts) : Type 0 where
  pub frames : c.frames < 2 ^ 32
  pub refused : c.refused < 2 ^ 32
  pub pixels : c.pixels < 2 ^ 52
  pub drawn : c.drawn < 2 ^ 54

-- a word, a space, a decimal number and a newline
abbrev pub line : List ℕ → ℕ → List ℕ
line word n = word ++ (32 ∷ (decimal n ++ 10 ∷ []))

abbrev pub summary_lines : ℕ → Counts → List ℕ
summary_lines count counts =
    line (codes "transactions") count ++ (line (codes "frames") counts.frames
    ++ (line (codes "refused") counts.refused ++ (line (codes "sum") counts.pixels ++ line (codes "drawn") counts.drawn)))

-- what `load` writes of the file that a number makes
unfoldable pub summary : ℕ → ℕ → List ℕ
summary number count = summary_lines count (counts_of (answers_to (file number count)))

-- the whole summary was written with status 0, and a prefix of it with any
pub record Summarises (number count status : ℕ) (old new : Option (List ℕ)) : Type 0 where
  pub done : status ≡ 0 → Wrote old new (summary number count)
  pub part : (out : List ℕ) × IsPrefix out (summary number count) × Wrote old new out
