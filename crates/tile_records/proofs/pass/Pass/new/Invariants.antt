use Rattle.std.proofs.Common.{◌≡◌, [], replicate}
use Rattle.tile_records.specs.Passing.{keys_of_records}
use Rattle.tile_records.proofs.pass.Pass.new.Given as goal

abbrev pub invariant-loop : goal.invariant-loop
invariant-loop l = record {
  lists : keys_of_records l.records.items ≡ replicate l.counter [];
  entered : l.entered.items ≡ replicate l.counter 0;
}
