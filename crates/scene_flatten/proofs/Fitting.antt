-- What items show fits their rectangles.
use Rattle.std.proofs.Common.{◌≡◌, ℕ, subst}
use Rattle.blend_rules.specs.declared.colour.Px.{Px}
use Rattle.display_list.specs.declared.item.Spot.{Spot}
use Rattle.display_list.specs.Trees.{Tree, solid, border, IsTree}
use Rattle.wr_geom.specs.declared.sides.Radii.{Radii}
use Rattle.wr_geom.specs.declared.sides.Widths.{Widths}
use Rattle.primitives.specs.declared.kind.Kind.TheVariants as kind
use Rattle.primitives.specs.PrimitiveModel.{IsKind}
use Rattle.primitives.proofs.Moves.{border_moved}
use Rattle.painter.specs.PlacedList.{PlacedList, node_point, item_rect}

pub solid_fits : (n k : ℕ) (l : PlacedList) (t : Tree) (o : Spot) (px : Px) → IsTree n k t → t ≡ solid o px → IsKind (item_rect l o) (kind.Solid px)
solid_fits n k l t o px is e = let it : IsTree n k (solid o px) = subst (IsTree n k) e is in it.1

pub border_fits : (n k : ℕ) (l : PlacedList) (t : Tree) (o : Spot) (w : Widths) (top r b le : Px) (ra : Radii) → IsTree n k t → t ≡ border o w top r b le ra → IsKind (item_rect l o) (kind.Border w top r b le ra)
border_fits n k l t o w top r b le ra is e =
    let it : IsTree n k (border o w top r b le ra) = subst (IsTree n k) e is in
    (border_moved o.rect (node_point l o.node) w ra it.1, it.2, it.3, it.4, it.5)
