use Rattle.std.proofs.Common.{◌≡◌}
use Rattle.tile_grid.specs.declared.tile.TileSides.{TileSides}
use Rattle.black_tiles.specs.Black.{AreBlack}
use Rattle.black_tiles.proofs.window.fill_window.Given as goal

-- the window stays, and black tiles stay black
abbrev pub invariant-loop-row : goal.invariant-loop-row
invariant-loop-row l = record {
  window : l.store.window ≡ l.fn.store.window;
  black : (sides : TileSides) → AreBlack sides l.fn.store.tiles → AreBlack sides l.store.tiles;
}
