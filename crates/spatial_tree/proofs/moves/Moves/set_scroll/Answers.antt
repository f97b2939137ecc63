use Rattle.std.proofs.lemmas.Int.{to_z-of_z}
use Rattle.spatial_tree.specs.Moves.{IsNearPair}
use Rattle.spatial_tree.proofs.NearMoves.{near_insert}
use Rattle.spatial_tree.proofs.moves.Moves.set_scroll.Goals as goal

pub invariant_of-self-2 : goal.invariant_of-self-2
invariant_of-self-2 c =
    let fits_x = c.ranges.x in
    let fits_y = c.ranges.y in
    let near : IsNearPair (c.args.x, c.args.y) = record { x = c.requires.x; y = c.requires.y } in
    let inserted = simp to_z-of_z at c.in_ok-insert.ensures.ok in
    record { scrolls = near_insert c.self.inside.scrolls _ _ _ inserted c.self.invariant.scrolls near; offsets = c.self.invariant.offsets }
