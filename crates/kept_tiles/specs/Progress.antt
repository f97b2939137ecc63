-- What holds at each moment of the work on some tiles.
use Rattle.std.specs.Prelude.{ℕ, ◌≤◌, ◌+◌, List, length}
use Rattle.image_store.specs.StoreModel.{StoreModel, IsStore}
use Rattle.image_store.specs.Laws.{IsUpTo}
use Rattle.tile_grid.specs.declared.tile.TileSides.{TileSides}
use Rattle.kept_tiles.specs.Tiles.{KeptModel, kept_of}
use Rattle.kept_tiles.specs.Work.{Shown, work_on}
use Rattle.kept_tiles.specs.Sound.{AreSound, Agrees}

-- tiles that are sound over these resources and over others that agree with them are still sound over the others
pub record KeepsSound (sides : TileSides) (store : StoreModel) (old new : KeptModel) : Type 0 where
  pub sound : (n : ℕ) (other : StoreModel) → IsStore store → IsStore other → IsUpTo n store → Agrees store other
      → AreSound sides n store (kept_of old) → AreSound sides n other (kept_of old) → AreSound sides n other (kept_of new)

-- what holds of the work on some tiles also where memory ended it
pub record IsWithin (old new : KeptModel) (shown : List Shown) : Type 0 where
  pub least : old.store.opened ≤ new.store.opened
  pub most : new.store.opened ≤ old.store.opened + (work_on old shown).cost
  pub more : length new.store.tiles ≤ length old.store.tiles + length shown
