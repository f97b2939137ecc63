use Rattle.std.proofs.Common.{◌≡◌, length, get_or, drop, ℕ, Contains}
use Rattle.tile_records.specs.Passing.{keys_of_records}
use Rattle.tile_records.specs.Passing.{closed, tile_among}
use Rattle.tile_records.proofs.pass.leave.Given as goal

-- ending the group in what is now gives what ending it at the start gives
abbrev pub invariant-loop-tile : goal.invariant-loop-tile
invariant-loop-tile l = record {
  each : (k : ℕ) → closed l.depth l.key (tile_among (keys_of_records l.records.items) l.entered.items k) ≡ closed l.depth l.key (tile_among (keys_of_records l.fn.records.items) l.fn.entered.items k);
  known : (k : ℕ) → get_or l.entered.items k 0 ≡ l.depth → Contains (drop l.tile-index l.group) k;
  sides : length l.entered.items ≡ length l.fn.entered.items;
  lists_sides : length (keys_of_records l.records.items) ≡ length (keys_of_records l.fn.records.items);
}
