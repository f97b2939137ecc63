use Rattle.std.proofs.Common.{◌≡◌, drop, reverse}
use Rattle.tile_records.specs.Dirt.{same_id, rests}
use Rattle.tile_records.proofs.dirt.common_suffix.Given as goal

-- what is left, from the end, differs as the whole does
abbrev pub invariant-loop-i : goal.invariant-loop-i
invariant-loop-i l = rests same_id (reverse l.old) (reverse l.new) ≡ rests same_id (drop l.i (reverse l.old)) (drop l.i (reverse l.new))
