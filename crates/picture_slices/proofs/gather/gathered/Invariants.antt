use Rattle.std.proofs.Common.{◌≡◌, ◌≤◌, length}
use Rattle.picture_slices.specs.Slices.{top_slices}
use Rattle.picture_slices.proofs.gather.gathered.Given as goal

abbrev pub invariant-loop-top : goal.invariant-loop-top
invariant-loop-top l = record { value : l.runs.items ≡ top_slices l.yielded; room : length l.runs.items ≤ 8 }
