-- What a transaction changes of what is stored, and what that means for kept tiles and for slices, as laws on the definitions.
use Rattle.std.specs.Prelude.{◌≡◌, ◌≤◌, ◌+◌, ℕ, Ok, All}
use Rattle.image_store.specs.Laws.{IsUpTo}
use Rattle.image_store.specs.StoreModel.{StoreModel, IsStore}
use Rattle.kept_tiles.specs.Sound.{IsCurrent, AreSound, Agrees}
use Rattle.kept_tiles.specs.Tiles.{KeptTiles}
use Rattle.picture_slices.specs.declared.slice.Slice.{Slice}
use Rattle.scene_slices.specs.Picture.{slices_of_scene}
use Rattle.scene_state.specs.Limits.{next_scene}
use Rattle.scene_state.specs.SceneModel.{SceneModel}
use Rattle.tile_grid.specs.declared.tile.TileSides.{TileSides}
use Rattle.txn_format.specs.Txn.{TxnModel}
use Rattle.scene_resources.specs.Additions.{additions}

-- ---- from a scene to the next one

-- the counter after a transaction: nothing in the new scene has a generation above it, it isn't below the last one, and it is
-- above it by at most one for each image or mask that is added or updated
pub record IsNextCounter (t : TxnModel) (new : SceneModel) (last next : ℕ) : Type 0 where
  pub bound : IsUpTo next new.store
  pub least : last ≤ next
  pub most : next ≤ last + additions t.ops

abbrev pub NextCounterIsABound : Type 0
NextCounterIsABound =
    (t : TxnModel) (old new : SceneModel) (last next : ℕ)
    → next_scene t old last ≡ Ok (new, next) → IsUpTo last old.store
    → IsNextCounter t new last next

-- where both stores have a resource of one generation under a key, it is the same
abbrev pub StoresAgree : Type 0
StoresAgree =
    (t : TxnModel) (old new : SceneModel) (last next : ℕ)
    → next_scene t old last ≡ Ok (new, next) → IsUpTo last old.store
    → Agrees old.store new.store × Agrees new.store old.store

-- kept tiles that are sound under what was stored are so under what is stored next
abbrev pub TilesStaySound : Type 0
TilesStaySound =
    (t : TxnModel) (old new : SceneModel) (last next : ℕ) (sides : TileSides) (tiles : KeptTiles)
    → next_scene t old last ≡ Ok (new, next) → IsUpTo last old.store → IsStore old.store → IsStore new.store
    → AreSound sides last old.store tiles → AreSound sides next new.store tiles

-- kept tiles that are sound up to a counter are so up to a greater one
abbrev pub TilesAreSoundAbove : Type 0
TilesAreSoundAbove =
    (sides : TileSides) (n m : ℕ) (store : StoreModel) (tiles : KeptTiles)
    → n ≤ m → AreSound sides n store tiles → AreSound sides m store tiles

-- ---- slices

-- each entry of a scene's slices uses what is stored in that scene
abbrev pub SlicesAreCurrent : Type 0
SlicesAreCurrent = (s : SceneModel) → All (λ (slice : Slice). All (IsCurrent s.store) slice.entries) (slices_of_scene s)
