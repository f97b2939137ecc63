use Rattle.std.proofs.Common.{◌≡◌, None, length, take}
use Rattle.tile_records.specs.Counts.{Covers}
use Rattle.kept_tiles.specs.Tiles.{all_valued, claims, kept_of}
use Rattle.kept_tiles.proofs.kept.KeptTiles.trim.Given as goal

abbrev pub invariant-tiles : goal.invariant-tiles
invariant-tiles l = record {
  kept : take l.budget (all_valued l.self-inside.interner l.self-inside.tiles.tiles) ≡ take l.budget (kept_of l.fn.self);
  opened : l.self-inside.tiles.opened ≡ l.fn.self.store.opened;
  covers : Covers l.self-inside.interner (claims l.self-inside.tiles.tiles);
  closed : l.self-inside.tiles.window ≡ None;
}

abbrev pub decreases-tiles : goal.decreases-tiles
decreases-tiles l = length l.self-inside.tiles.tiles
