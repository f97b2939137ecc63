use Rattle.std.proofs.Common.{◌≡◌, None, drop}
use Rattle.tile_records.specs.Counts.{Covers}
use Rattle.kept_tiles.specs.Tiles.{all_valued, claims, kept_with}
use Rattle.kept_tiles.specs.Progress.{KeepsSound}
use Rattle.kept_tiles.specs.Steps.{ArePlaced}
use Rattle.kept_tiles.specs.Work.{frame_tiles}
use Rattle.kept_tiles.proofs.Progress.{IsCounting, IsUnderway}
use Rattle.kept_tiles.proofs.kept.KeptTiles.show_slices.Given as goal

abbrev pub invariant-loop-slice : goal.invariant-loop-slice
invariant-loop-slice l = record {
  underway : IsUnderway l.fn.self (kept_with l.self-inside.interner l.self-inside.tiles) (frame_tiles l.sides l.slices) (frame_tiles l.sides (drop l.slice-index l.slices));
  counting : IsCounting l.fn.self (kept_with l.self-inside.interner l.self-inside.tiles) (frame_tiles l.sides l.slices) (frame_tiles l.sides (drop l.slice-index l.slices)) l.drawn;
  keeps : KeepsSound l.sides l.store l.fn.self (kept_with l.self-inside.interner l.self-inside.tiles);
  placed : ArePlaced l.sides (all_valued l.self-inside.interner l.self-inside.tiles.tiles);
  covers : Covers l.self-inside.interner (claims l.self-inside.tiles.tiles);
  closed : l.self-inside.tiles.window ≡ None;
  scratch : l.scratch ≡ l.fn.scratch;
}
