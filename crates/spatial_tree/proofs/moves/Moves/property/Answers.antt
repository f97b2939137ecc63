use Rattle.std.proofs.Common.{subst, sym, ap, ◌∙◌}
use Rattle.std.specs.FinMap.{get}
use Rattle.spatial_tree.specs.Moves.{AreNearPairs}
use Rattle.spatial_tree.specs.Offsets.{IsWithin, distance_of}
use Rattle.spatial_tree.proofs.Distances.{distance_within}
use Rattle.spatial_tree.proofs.moves.Moves.property.Goals as goal

pub returns-in-Some-clause-within : goal.returns-in-Some-clause-within
returns-in-Some-clause-within c =
    let m = c.offsets-offsets.result.now in
    let near = subst AreNearPairs (sym c.offsets-offsets.ensures.value) c.offsets-offsets.ensures.near.offsets in
    let is = c.distance-in-Some.ensures ∙ ap distance_of (c.copied.ensures ∙ c.get.ensures) in
    subst (IsWithin 1048576) (sym is) (distance_within (get m c.in-Some.id) (near c.in-Some.id))
