use Rattle.std.proofs.Common.{◌≡◌, None}
use Rattle.black_tiles.specs.Black.{AreBlack}
use Rattle.black_tiles.proofs.keep.keep_black.Given as goal

-- the tiles so far are black
abbrev pub invariant-loop-index : goal.invariant-loop-index
invariant-loop-index l = record {
  closed : l.store.window ≡ None;
  black : AreBlack l.fn.sides l.store.tiles;
}
