use Rattle.std.proofs.Common.{ℕ, ◌<◌, get_or}
use Rattle.primitives.specs.Facts.{IsEntry}
use Rattle.primitives.specs.declared.entry.Entry.{Entry}
use Rattle.tile_raster.proofs.list.know_each.Given as goal

abbrev pub invariant-loop-entry : goal.invariant-loop-entry
invariant-loop-entry l = (k : ℕ) (d : Entry) → k < l.entry-index → IsEntry (get_or l.entries k d)
