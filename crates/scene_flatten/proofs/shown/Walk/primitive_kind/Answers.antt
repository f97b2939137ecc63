use Rattle.std.proofs.Common.{rules, ◌+◌, length, Option, sym, ap, subst, ◌∙◌}
use Rattle.std.specs.Prelude.{IfSome}
use Rattle.display_list.specs.declared.item.Spot.{Spot}
use Rattle.display_list.specs.Trees.{tree_of}
use Rattle.display_list.proofs.TreeLaws.{tree-solid, tree-border}
use Rattle.primitives.specs.declared.kind.Kind.{Kind}
use Rattle.primitives.specs.PrimitiveModel.{IsKind}
use Rattle.painter.specs.PlacedList.{PlacedList, item_rect}
use Rattle.scene_flatten.proofs.Fitting.{solid_fits, border_fits}
use Rattle.scene_flatten.proofs.shown.Walk.primitive_kind.Goals as goal
use Rattle.scene_flatten.proofs.shown.Walk.primitive_kind.Goals.{in-Solid, in-Image, in-Border, in-Text+in_ok-kind-in-Text, in-Context}

abbrev Fits : PlacedList → Option (Spot × Kind) → Type 0
Fits l shown = IfSome shown (λ p. IsKind (item_rect l p.0) p.1)

pub returns-clause-kind : goal.returns-clause-kind
returns-clause-kind c =
    let l = c.args.placed.now in
    let nodes = length l.list.nodes + 1 in
    let chains = length l.list.chains in
    elim c.match-item.branch [
      | in-Solid w ↦ subst (Fits l) (sym w.result-is)
          (solid_fits nodes chains l (tree_of c.args.item.now) w.in-Solid.spot w.in-Solid.colour c.requires.fields (ap tree_of w.in-Solid.is ∙ tree-solid w.in-Solid.spot w.in-Solid.colour))
      | in-Image w ↦ subst (Fits l) (sym w.result-is) (search rules)
      | in-Border w ↦ (let x = w.in-Border in
          subst (Fits l) (sym w.result-is)
          (border_fits nodes chains l (tree_of c.args.item.now) x.spot x.widths x.top x.right x.bottom x.left x.radii c.requires.fields (ap tree_of x.is ∙ tree-border x.spot x.widths x.top x.right x.bottom x.left x.radii)))
      | in-Text+in_ok-kind-in-Text w ↦ subst (Fits l) (sym w.result-is) w.in_ok-kind-in-Text.ensures.kind
      | in-Context w ↦ subst (Fits l) (sym w.result-is) tt
    ]
