use Rattle.std.proofs.Common.{◌≡◌, ◌++◌, [], ◌<◌, ◌≤◌, length, get_or, slice_set, drop, ℕ, Contains}
use Rattle.tile_records.specs.Passing.{views, keys_of_records}
use Rattle.tile_records.proofs.pass.fill.Given as goal

-- what is left of the groups, from here, makes what all make from the start
abbrev pub invariant-loop-depth : goal.invariant-loop-depth
invariant-loop-depth l = record {
  list : slice_set (keys_of_records l.records.items) l.tile (get_or (keys_of_records l.records.items) l.tile [] ++ drop l.depth l.groups)
      ≡ slice_set (keys_of_records l.fn.records.items) l.tile (get_or (keys_of_records l.fn.records.items) l.tile [] ++ drop l.from l.groups);
  there : l.tile < length (keys_of_records l.records.items);
  sides : length (views l.reached.items) ≡ length l.groups;
  more : (j k : ℕ) → Contains (get_or (views l.fn.reached.items) j []) k → Contains (get_or (views l.reached.items) j []) k;
  told : (j : ℕ) → l.from ≤ j → j < l.depth → Contains (get_or (views l.reached.items) j []) l.tile;
}
