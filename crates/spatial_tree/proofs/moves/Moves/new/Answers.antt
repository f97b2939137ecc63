use Rattle.std.proofs.Common.{◌∙◌}
use Rattle.spatial_tree.proofs.NearMoves.{near_empty}
use Rattle.spatial_tree.proofs.moves.Moves.new.Goals as goal

pub invariant_of-result : goal.invariant_of-result
invariant_of-result c = record { scrolls = near_empty c.new-2.result (c.new-2.ensures ∙ c.new.ensures); offsets = near_empty c.new-4.result (c.new-4.ensures ∙ c.new-3.ensures) }
