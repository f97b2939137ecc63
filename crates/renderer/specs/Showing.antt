-- The steps by which the next scene is shown.
use Rattle.std.specs.Prelude.{◌≡◌, ℕ, ◌≤◌, ◌+◌, ◌^◌, length, take}
use Rattle.tile_store.specs.StoreModel.{opened_after}
use Rattle.kept_tiles.specs.Showing.{AreShown}
use Rattle.kept_tiles.specs.Sound.{AreSound, Agrees}
use Rattle.kept_tiles.specs.Tiles.{KeptModel, kept_of}
use Rattle.kept_tiles.specs.Work.{IsWorkDone, records_of, work_on}
use Rattle.scene_state.specs.SceneModel.{SceneModel}
use Rattle.renderer.specs.declared.answer.Report.{Report}
use Rattle.renderer.specs.Drops.{sides_of}
use Rattle.renderer.specs.Frames.{IsFrameOf, IsThere, scene_tiles, work_of_frame}
use Rattle.renderer.specs.Kept.{IsFresh}
use Rattle.renderer.specs.RendererModel.{RendererModel}

-- what is kept is fresh for the scene as it stands and for the next one
pub record IsReady (old next : SceneModel) (last : ℕ) (kept : KeptModel) : Type 0 where
  pub before : IsFresh old last kept
  pub after : IsFresh next last kept
  pub agrees : Agrees next.store old.store

-- only kept tiles have changed
pub record KeepsRest (old new : RendererModel) : Type 0 where
  pub scene : new.scene ≡ old.scene
  pub last : new.last ≡ old.last
  pub frame : new.frame ≡ old.frame

-- the tiles of the next scene were drawn, and show it
pub record IsDrawn (next : SceneModel) (old new : RendererModel) (drawn : ℕ) : Type 0 where
  pub rest : KeepsRest old new
  pub work : IsWorkDone old.kept new.kept (work_on old.kept (scene_tiles next))
  pub count : drawn ≡ (work_on old.kept (scene_tiles next)).cost
  pub most : drawn ≤ 2 ^ 36
  pub sound : AreSound (sides_of next.policy) old.last next.store (kept_of new.kept)
  pub shown : AreShown next.store (kept_of new.kept) (scene_tiles next)

-- memory ran out: what is kept is fresh for the scene as it stands, and at most the frame's pixels were drawn
pub record IsUndrawn (next : SceneModel) (old new : RendererModel) : Type 0 where
  pub rest : KeepsRest old new
  pub fresh : IsFresh new.scene new.last new.kept
  pub least : old.kept.store.opened ≤ new.kept.store.opened
  pub most : new.kept.store.opened ≤ old.kept.store.opened + (work_on old.kept (scene_tiles next)).cost

-- the frame of the next scene was put together, and as many tiles stay kept as its budget allows
pub record IsFinished (next : SceneModel) (old new : RendererModel) (count : ℕ) (report : Report) : Type 0 where
  pub scene : new.scene ≡ next
  pub last : new.last ≡ old.last
  pub kept : kept_of new.kept ≡ take next.policy.budget (kept_of old.kept)
  pub opened : new.kept.store.opened ≡ old.kept.store.opened
  pub frame : IsThere (IsFrameOf next new.kept.store.opened) new.frame
  pub tiles : report.tiles ≡ length new.kept.store.tiles
  pub drawn : report.drawn ≡ count
  pub fresh : IsFresh new.scene new.last new.kept

-- the next scene was shown, with exactly the work of its frame
pub record IsShown (next : SceneModel) (old new : RendererModel) (report : Report) : Type 0 where
  pub scene : new.scene ≡ next
  pub last : new.last ≡ old.last
  pub kept : records_of (kept_of new.kept) ≡ (work_of_frame next (records_of (kept_of old.kept))).kept
  pub opened : new.kept.store.opened ≡ opened_after old.kept.store.opened (work_of_frame next (records_of (kept_of old.kept))).cost
  pub frame : IsThere (IsFrameOf next new.kept.store.opened) new.frame
  pub tiles : report.tiles ≡ length new.kept.store.tiles
  pub drawn : report.drawn ≡ (work_of_frame next (records_of (kept_of old.kept))).cost
  pub most : report.drawn ≤ 2 ^ 36

-- memory ran out: scene and last frame stand, and at most the frame's pixels were drawn
pub record IsUnshown (next : SceneModel) (old new : RendererModel) : Type 0 where
  pub rest : KeepsRest old new
  pub least : old.kept.store.opened ≤ new.kept.store.opened
  pub most : new.kept.store.opened ≤ old.kept.store.opened + (work_of_frame next (records_of (kept_of old.kept))).cost
