use Rattle.std.proofs.Common.{◌≡◌, ◌++◌, All}
use Rattle.primitives.specs.Facts.{IsEntry}
use Rattle.primitives.specs.Moves.{shifted_entries}
use Rattle.primitives.specs.Tops.{IsCloseEntry}
use Rattle.picture_slices.specs.Slices.{first_without}
use Rattle.picture_slices.proofs.entries.add_top.Given as goal

-- with those that are left, moved, all are appended
abbrev pub invariant-loop-entry : goal.invariant-loop-entry
invariant-loop-entry l = record {
  value : l.entries.items ++ shifted_entries l.entry-iterator.rest.items l.by ≡ l.fn.entries.items ++ shifted_entries (first_without l.skip l.top.entries) l.by;
  close : All IsCloseEntry l.entry-iterator.rest.items;
  good : All IsEntry l.entry-iterator.rest.items → All IsEntry l.top.entries;
}
