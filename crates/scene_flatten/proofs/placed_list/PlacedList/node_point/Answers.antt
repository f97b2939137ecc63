use Rattle.std.proofs.Common.{subst, sym, ◌^◌}
use Rattle.wr_geom.specs.declared.point.Point.{Point}
use Rattle.spatial_tree.specs.Offsets.{IsWithin}
use Rattle.painter.specs.PlacedList.{PlacedList}
use Rattle.scene_flatten.specs.Facts.{IsNearList, HasPoints}
use Rattle.scene_flatten.proofs.Near.{node_within}
use Rattle.scene_flatten.proofs.Tables.{point_in}
use Rattle.scene_flatten.proofs.placed_list.PlacedList.node_point.Goals as goal

pub returns-clause-value : goal.returns-clause-value
returns-clause-value c =
    point_in c.args.self.now c.as_slice-points.result.now c.self.inside.points.items c.args.node _ c.as_slice-points.ensures.value
    (subst (λ (l : PlacedList). HasPoints l c.self.inside.points.items) c.self.view_is c.self.invariant.1) c.requires

pub returns-clause-reach : goal.returns-clause-reach
returns-clause-reach c =
    subst (λ (p : Point). IsWithin (2 ^ 27) p) (sym (returns-clause-value c)) (node_within c.args.self.now c.args.node (subst IsNearList c.self.view_is c.self.invariant.0) c.requires)
