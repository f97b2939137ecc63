use Rattle.std.proofs.Common.{◌≡◌, drop}
use Rattle.tile_records.specs.Dirt.{same_id, rests}
use Rattle.tile_records.proofs.dirt.common_prefix.Given as goal

-- what is left differs as the whole does
abbrev pub invariant-loop-i : goal.invariant-loop-i
invariant-loop-i l = rests same_id l.old l.new ≡ rests same_id (drop l.i l.old) (drop l.i l.new)
