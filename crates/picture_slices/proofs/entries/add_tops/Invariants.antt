use Rattle.std.proofs.Common.{◌≡◌, ◌++◌}
use Rattle.primitives.specs.Moves.{shifted_entries}
use Rattle.picture_slices.specs.Facts.{HaveGoodEntries}
use Rattle.picture_slices.specs.Slices.{entries_without}
use Rattle.picture_slices.proofs.entries.add_tops.Given as goal

abbrev pub invariant-loop-top : goal.invariant-loop-top
invariant-loop-top l = record {
  value : l.entries.items ≡ l.initial.entries.items ++ shifted_entries (entries_without l.skip l.yielded) l.by;
  good : HaveGoodEntries l.yielded;
}
