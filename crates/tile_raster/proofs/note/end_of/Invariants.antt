use Rattle.std.proofs.Common.{length, ◌-◌, ◌≤◌, ◌+◌, ℕ}
use Rattle.tile_raster.specs.Lists.{entries_of}
use Rattle.tile_raster.specs.Levels.{IsAt, StaysWithin}
use Rattle.tile_raster.proofs.note.end_of.Given as goal

abbrev pub invariant-entries : goal.invariant-entries
invariant-entries l = record {
  left : l.from ≤ l.i;
  right : l.i ≤ length (entries_of l.entries);
  few : l.opened ≤ l.i;
  place : (n : ℕ) → IsAt (entries_of l.entries) n l.from → IsAt (entries_of l.entries) (n + l.opened) l.i;
  within : (n : ℕ) → IsAt (entries_of l.entries) n l.from → StaysWithin (entries_of l.entries) n l.from l.i;
}

abbrev pub decreases-entries : goal.decreases-entries
decreases-entries l = length (entries_of l.entries) - l.i
