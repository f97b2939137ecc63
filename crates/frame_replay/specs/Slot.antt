-- What a slot for a renderer holds after a command.
use Rattle.std.specs.Prelude.{◌≡◌, ◌⊎◌, ℕ, Bool, true, false, List, Option, None, Some, IsSome}
use Rattle.record_frame.specs.Transactions.{has_magic}
use Rattle.renderer.specs.RendererModel.{RendererModel}
use Rattle.frame_replay.specs.declared.words.Command.{Command}
use Rattle.frame_replay.specs.declared.words.Command.TheVariants.{Replay, Paint, Load}
use Rattle.frame_replay.specs.Answer.{ReplayState, start_state, state_after_all, state_after_file, state_of}

-- a renderer in this state
abbrev pub Holds : ReplayState → Option RendererModel → Type 0
Holds state None = ⊥
Holds state (Some r) = state_of r ≡ state

-- The slot is as it was, or holds a renderer.
abbrev pub StandsOrHolds : Option RendererModel → Option RendererModel → Type 0
StandsOrHolds old new = (new ≡ old) ⊎ IsSome new

-- where an input begins with its magic, a renderer in this state; else the slot is as it was
abbrev pub HoldsIf : Bool → ReplayState → Option RendererModel → Option RendererModel → Type 0
HoldsIf true state old new = Holds state new
HoldsIf false state old new = new ≡ old

-- What the slot holds after `replay`, with or without statistics: the renderer that made the frames of all whole transactions, where all were answered or the framing is broken after the magic. Where the magic is wrong, it is as it was.
pub record SlotAfterReplay (stats : Bool) (status : ℕ) (input : List ℕ) (old new : Option RendererModel) : Type 0 where
  pub done : status ≡ 0 → Holds (state_after_file input stats) new
  pub broken : status ≡ 2 → HoldsIf (has_magic input) (state_after_file input stats) old new

-- the same after the records that follow a magic, whose whole transactions are these
pub record SlotAfterRecords (stats : Bool) (status : ℕ) (payloads : List (List ℕ)) (new : Option RendererModel) : Type 0 where
  pub done : status ≡ 0 → Holds (state_after_all payloads stats start_state) new
  pub broken : status ≡ 2 → Holds (state_after_all payloads stats start_state) new

-- this holds of whether a replay tells what frames took
abbrev pub IfReplay : Command → (Bool → Type 0) → Type 0
IfReplay (Replay stats) P = P stats
IfReplay Paint P = Unit {0}
IfReplay (Load number count) P = Unit {0}

-- whatever the status is: words that name no command, and `paint`, leave the slot
abbrev pub SlotStands : Option Command → Option RendererModel → Option RendererModel → Type 0
SlotStands None old new = new ≡ old
SlotStands (Some (Replay stats)) old new = StandsOrHolds old new
SlotStands (Some Paint) old new = new ≡ old
SlotStands (Some (Load number count)) old new = StandsOrHolds old new
