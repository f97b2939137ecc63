use Rattle.std.proofs.Common.{◌≡◌, drop}
use Rattle.tile_records.specs.Counts.{raised_records}
use Rattle.tile_records.specs.Passing.{keys_of_records}
use Rattle.tile_records.proofs.making.raise_all.Given as goal

-- what is left, from here, gives what all gives from the start
abbrev pub invariant-loop-record : goal.invariant-loop-record
invariant-loop-record l = raised_records l.interner (keys_of_records (drop l.record-index l.records)) ≡ raised_records l.fn.interner (keys_of_records l.fn.records)
