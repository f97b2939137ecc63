use Rattle.std.proofs.Common.{◌≤◌, ◌+◌, ℕ}
use Rattle.tile_raster.specs.Lists.{entries_of}
use Rattle.tile_raster.specs.Levels.{IsAt, StaysWithin}
use Rattle.tile_raster.proofs.note.start_of.Given as goal

abbrev pub invariant-entries : goal.invariant-entries
invariant-entries l = record {
  right : l.i ≤ l.to;
  few : l.closed + l.i ≤ l.to;
  place : (n : ℕ) → IsAt (entries_of l.entries) (n + 1) l.to → IsAt (entries_of l.entries) (n + 1 + l.closed) l.i;
  within : (n : ℕ) → IsAt (entries_of l.entries) (n + 1) l.to → StaysWithin (entries_of l.entries) (n + 1) l.i l.to;
}

abbrev pub decreases-entries : goal.decreases-entries
decreases-entries l = l.i
