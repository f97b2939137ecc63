-- Operations of a transaction, one by one.
use Rattle.std.proofs.Common.{ℕ, zero, suc, ◌+◌, ◌<◌, ◌≤◌, ◌^◌, List, [], ◌∷◌, length, get_or, arith}
use Rattle.std.specs.Prelude.{All}
use Rattle.std.proofs.lemmas.List.Elements.{All-head, All-tail}
use Rattle.txn_format.specs.declared.op.Placed.{Placed}
use Rattle.txn_format.specs.Txn.{PlacedModel, set_list}
use Rattle.txn_format.specs.Checks.{EndsWithin}
use Rattle.txn_format.proofs.OpLengths.{length-set_list}
use Rattle.txn_format.specs.Models.{placed_model, placed_models}

-- a fact of each operation holds of one
pub each_op : (P : PlacedModel → Type 0) (ps : List Placed) (k : ℕ) (d : Placed) → k < length ps → All P (placed_models ps) → P (placed_model (get_or ps k d))
each_op P [] k d lt h = absurd (omega arith)
each_op P (p ∷ ps) zero d lt h = All-head P (placed_model p) (placed_models ps) h
each_op P (p ∷ ps) (suc k) d lt h = each_op P ps k d (omega arith) (All-tail P (placed_model p) (placed_models ps) h)

-- a list's bytes end within the payload
pub list_ends : (at epoch : ℕ) (bytes : List ℕ) → EndsWithin (2 ^ 26) (record { at = at; op = set_list epoch bytes }) → at + 9 + length bytes ≤ 2 ^ 26
list_ends at epoch bytes h = let ends = h.ends in omega (arith, ends, length-set_list epoch bytes)

-- what ends earlier ends here too
pub ends_here : (len : ℕ) (p : PlacedModel) → len ≤ 2 ^ 26 → EndsWithin len p → EndsWithin (2 ^ 26) p
ends_here len p le h = record { ends = (let ends = h.ends in omega (arith, ends, le)) }
