use Rattle.std.proofs.Common.{◌≡◌, ◌≤◌, ◌+◌, length, All}
use Rattle.slice_rules.specs.Keys.{slice_keys}
use Rattle.slice_rules.specs.Runs.{Run}
use Rattle.primitives.specs.declared.entry.Top.{Top}
use Rattle.picture_slices.specs.Facts.{HaveGoodEntries}
use Rattle.picture_slices.specs.Slices.{keyed_slices}
use Rattle.picture_slices.proofs.slice.sliced.Given as goal

abbrev pub invariant-loop-run : goal.invariant-loop-run
invariant-loop-run l = record {
  value : l.slices.items ≡ keyed_slices l.view (slice_keys l.yielded) l.yielded;
  good : All (λ (r : Run Top). HaveGoodEntries r.members) l.yielded;
  room : length l.slices.items + l.run-iterator.rest.len ≤ 8;
}
