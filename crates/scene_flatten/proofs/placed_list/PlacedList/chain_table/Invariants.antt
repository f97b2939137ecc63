use Rattle.std.proofs.Common.{◌≡◌, length, None}
use Rattle.std.specs.Prelude.{All}
use Rattle.scene_flatten.proofs.placed_list.PlacedList.chain_table.Given as goal

-- a place for each chain so far, and none is known
abbrev pub invariant-loop-chain : goal.invariant-loop-chain
invariant-loop-chain l = (length l.table.items ≡ l._chain-index) × All (λ o. o ≡ None) l.table.items
