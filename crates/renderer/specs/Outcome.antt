-- What a transaction makes of a renderer.
use Rattle.std.specs.Prelude.{◌≡◌, ℕ, ◌≤◌, ◌+◌, ◌^◌, true, false, length, Result, Ok, Err, if◌then◌else◌}
use Rattle.wr_io.specs.declared.fault.Fault.{Fault}
use Rattle.txn_format.specs.Txn.{TxnModel}
use Rattle.tile_store.specs.StoreModel.{opened_after}
use Rattle.kept_tiles.specs.Tiles.{kept_of}
use Rattle.kept_tiles.specs.Work.{Work, records_of}
use Rattle.scene_state.specs.SceneModel.{SceneModel}
use Rattle.scene_state.specs.Operations.{Next}
use Rattle.scene_state.specs.Limits.{next_scene}
use Rattle.scene_state.specs.declared.error.ApplyError.{ApplyError}
use Rattle.scene_state.specs.declared.error.ApplyError.TheVariants as errors
use Rattle.scene_resources.specs.Additions.{additions}
use Rattle.renderer.specs.declared.answer.Report.{Report}
use Rattle.renderer.specs.declared.answer.Answer.{Answer}
use Rattle.renderer.specs.declared.answer.Answer.TheVariants as answers
use Rattle.renderer.specs.Drops.{tiles_left}
use Rattle.renderer.specs.Frames.{IsFrameOf, IsThere, work_of_frame}
use Rattle.renderer.specs.RendererModel.{RendererModel}

-- the work of the frame of a scene that a transaction makes, over the tiles that it leaves
abbrev pub frame_after : TxnModel → RendererModel → SceneModel → Work
frame_after t old scene = work_of_frame scene (tiles_left t old.scene.policy (records_of (kept_of old.kept)))

-- applied, without a frame: what is kept is what the transaction leaves, and all else stands
pub record IsAccepted (t : TxnModel) (old new : RendererModel) : Type 0 where
  pub unframed : t.frame ≡ false
  pub next : next_scene t old.scene old.last ≡ Ok (new.scene, new.last)
  pub kept : kept_of new.kept ≡ tiles_left t old.scene.policy (kept_of old.kept)
  pub opened : new.kept.store.opened ≡ old.kept.store.opened
  pub frame : new.frame ≡ old.frame

-- applied, with a frame: it shows the new scene, from a store that has counted exactly the frame's cost
pub record IsFramed (t : TxnModel) (old new : RendererModel) (report : Report) : Type 0 where
  pub framed : t.frame ≡ true
  pub next : next_scene t old.scene old.last ≡ Ok (new.scene, new.last)
  pub kept : records_of (kept_of new.kept) ≡ (frame_after t old new.scene).kept
  pub opened : new.kept.store.opened ≡ opened_after old.kept.store.opened (frame_after t old new.scene).cost
  pub frame : IsThere (IsFrameOf new.scene new.kept.store.opened) new.frame
  pub tiles : report.tiles ≡ length new.kept.store.tiles
  pub drawn : report.drawn ≡ (frame_after t old new.scene).cost
  pub most : report.drawn ≤ 2 ^ 36

-- refused: it has this first fault, and all stands
pub record IsRefused (t : TxnModel) (old new : RendererModel) (why : Fault) : Type 0 where
  pub next : next_scene t old.scene old.last ≡ Err why
  pub same : new ≡ old

-- how many pixels a transaction may draw
abbrev pub cost_of : TxnModel → RendererModel → Next → ℕ
cost_of t old (Ok made) = if t.frame then (frame_after t old made.0).cost else 0
cost_of t old (Err why) = 0

abbrev pub cost_after : TxnModel → RendererModel → ℕ
cost_after t old = cost_of t old (next_scene t old.scene old.last)

-- out of memory: scene and last frame stand. Generations may have been given, and a part of the frame's pixels drawn.
pub record IsUnfinished (t : TxnModel) (old new : RendererModel) : Type 0 where
  pub scene : new.scene ≡ old.scene
  pub frame : new.frame ≡ old.frame
  pub given_least : old.last ≤ new.last
  pub given_most : new.last ≤ old.last + additions t.ops
  pub opened_least : old.kept.store.opened ≤ new.kept.store.opened
  pub opened_most : new.kept.store.opened ≤ old.kept.store.opened + cost_after t old

-- what a call returned and left is one of these
abbrev pub Applies : TxnModel → RendererModel → RendererModel → Result Answer ApplyError → Type 0
Applies t old new (Ok answers.Accepted) = IsAccepted t old new
Applies t old new (Ok (answers.Framed report)) = IsFramed t old new report
Applies t old new (Err (errors.Fault why)) = IsRefused t old new why
Applies t old new (Err errors.NoMemory) = IsUnfinished t old new
