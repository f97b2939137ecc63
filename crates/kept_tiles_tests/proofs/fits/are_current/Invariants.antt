use Rattle.std.proofs.Common.{◌<◌, ℕ, get_or}
use Rattle.primitives.specs.Facts.{IsEntry}
use Rattle.primitives.specs.declared.entry.Entry.{Entry}
use Rattle.kept_tiles.specs.Sound.{IsCurrent}
use Rattle.kept_tiles_tests.proofs.fits.are_current.Given as goal

abbrev pub invariant-loop-entry : goal.invariant-loop-entry
invariant-loop-entry l = record {
  good : (k : ℕ) (d : Entry) → k < l.entry-index → IsEntry (get_or l.entries k d);
  current : (k : ℕ) (d : Entry) → k < l.entry-index → IsCurrent l.store (get_or l.entries k d);
}
