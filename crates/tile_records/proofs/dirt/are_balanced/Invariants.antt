use Rattle.std.proofs.Common.{◌≡◌, ◌≤◌, drop}
use Rattle.primitives.specs.Stacks.{balanced}
use Rattle.tile_records.specs.Interning.{entries_under, ids_keys}
use Rattle.tile_records.proofs.dirt.are_balanced.Given as goal

-- what is left, after the open groups, is balanced where all is
abbrev pub invariant-loop-id : goal.invariant-loop-id
invariant-loop-id l = record {
  few : l.depth ≤ l.id-index;
  rest : balanced l.depth (entries_under l.interner (ids_keys (drop l.id-index l.ids))) ≡ balanced 0 (entries_under l.interner (ids_keys l.ids));
}
