-- What a store is after a row of its window was lent for writing.
use Rattle.std.specs.Prelude.{ℕ, List, ℤ}
use Rattle.std.specs.Borrow.{Lends, MutBor, Fml, u8, Array, RattleType}
use Rattle.blend_rules.specs.declared.plane.Plane.{Plane}
use Rattle.tile_store.specs.contracts.store.TileStore.{the_row}
use Rattle.tile_store.specs.StoreModel.{StoreModel}
use Rattle.tile_store.specs.Windows.{with_window_row}

module _ (R : RattleType) (store : MutBor (StoreModel R.Denot)) where
  -- it ends with the last bytes behind r in that row of the window
  abbrev pub LendsWindowRow : Plane → ℤ → MutBor (List ℕ) → Fml
  LendsWindowRow plane y r = Lends (the_row R) (Array u8 0) store r (λ bytes. with_window_row plane y bytes store.now)
