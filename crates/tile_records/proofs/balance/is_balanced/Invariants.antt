use Rattle.std.proofs.Common.{◌≡◌, ◌≤◌, drop}
use Rattle.primitives.specs.Stacks.{balanced}
use Rattle.tile_records.proofs.balance.is_balanced.Given as goal

-- what is left, after the open groups, is balanced where all is
abbrev pub invariant-loop-entry : goal.invariant-loop-entry
invariant-loop-entry l = record {
  few : l.depth ≤ l.entry-index;
  rest : balanced l.depth (drop l.entry-index l.entries) ≡ balanced 0 l.entries;
}
