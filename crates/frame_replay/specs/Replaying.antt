-- What a payload makes of a renderer.
use Rattle.std.specs.Prelude.{◌≡◌, ℕ, ◌≤◌, ◌^◌, List, length, false, true, Result, Ok, Err}
use Rattle.wr_io.specs.declared.fault.Fault.{Fault}
use Rattle.scene_state.specs.declared.error.ApplyError.{ApplyError}
use Rattle.scene_state.specs.declared.error.ApplyError.TheVariants as errors
use Rattle.renderer.specs.declared.answer.Report.{Report}
use Rattle.renderer.specs.declared.answer.Answer.{Answer}
use Rattle.renderer.specs.declared.answer.Answer.TheVariants as answers
use Rattle.renderer.specs.Frames.{ShowScene, IsThere}
use Rattle.renderer.specs.RendererModel.{RendererModel}
use Rattle.frame_replay.specs.Answer.{Accepted, accepted, state_of}

-- the last frame shows the scene
abbrev pub HasFrame : RendererModel → Type 0
HasFrame r = IsThere (λ frame. ShowScene r.scene frame.planes) r.frame

-- it was accepted, and no frame was asked for
pub record IsAcceptedBy (payload : List ℕ) (old new : RendererModel) : Type 0 where
  pub made : Accepted
  pub is : accepted payload (state_of old) ≡ Ok made
  pub unframed : made.frame ≡ false
  pub state : made.state ≡ state_of new

-- its frame is the last one, and took this
pub record IsFramedBy (payload : List ℕ) (old new : RendererModel) (report : Report) : Type 0 where
  pub made : Accepted
  pub is : accepted payload (state_of old) ≡ Ok made
  pub framed : made.frame ≡ true
  pub state : made.state ≡ state_of new
  pub frame : HasFrame new
  pub tiles : report.tiles ≡ length made.state.kept
  pub drawn : report.drawn ≡ made.drawn
  pub most : report.drawn ≤ 2 ^ 36

-- it has this first fault, and all stands
pub record IsRefusedBy (payload : List ℕ) (old new : RendererModel) (fault : Fault) : Type 0 where
  pub is : accepted payload (state_of old) ≡ Err fault
  pub same : new ≡ old

abbrev pub Replays : List ℕ → RendererModel → RendererModel → Result Answer ApplyError → Type 0
Replays payload old new (Ok answers.Accepted) = IsAcceptedBy payload old new
Replays payload old new (Ok (answers.Framed report)) = IsFramedBy payload old new report
Replays payload old new (Err (errors.Fault fault)) = IsRefusedBy payload old new fault
Replays payload old new (Err errors.NoMemory) = Unit {0}
