-- What holds of a renderer at all times.
use Rattle.std.specs.Prelude.{ℕ, ◌≤◌, length}
use Rattle.image_store.specs.Laws.{IsUpTo}
use Rattle.tile_store.specs.Laws.{HaveOwnKeys}
use Rattle.kept_tiles.specs.Sound.{AreSound}
use Rattle.kept_tiles.specs.Tiles.{KeptModel, kept_of}
use Rattle.scene_state.specs.SceneModel.{SceneModel}
use Rattle.scene_state.specs.Limits.{IsScene}
use Rattle.renderer.specs.Drops.{sides_of}
use Rattle.renderer.specs.RendererModel.{RendererModel}

-- No kept tile is stale. Nothing stored and no record of a tile has a generation above the last one that was given. Each tile
-- has the rectangle of its key under the scene's policy and premultiplied colours, and wherever what its record names is
-- stored now, its pixel is the record's. At most 65,536 tiles are kept.
pub record IsFresh (scene : SceneModel) (last : ℕ) (kept : KeptModel) : Type 0 where
  pub stored : IsUpTo last scene.store
  pub sound : AreSound (sides_of scene.policy) last scene.store (kept_of kept)
  pub few : length kept.store.tiles ≤ 65536

-- the same, with what each scene and each store of tiles keeps by itself: no limit is broken, and no key is kept twice
pub record IsKept (r : RendererModel) : Type 0 where
  pub scene : IsScene r.scene
  pub fresh : IsFresh r.scene r.last r.kept
  pub keys : HaveOwnKeys r.kept.store.tiles
