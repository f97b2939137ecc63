-- The top item of a primitive.
use Rattle.std.proofs.Common.{◌≡◌, List, [], ◌∷◌, ◌++◌, map, Option, Some, sym, ap, ◌∙◌}
use Rattle.display_list.specs.declared.item.Spot.{Spot}
use Rattle.display_list.specs.Trees.{Tree, solid, image, border, text, context, iframe, hit_area}
use Rattle.image_store.specs.StoreModel.{StoreModel}
use Rattle.pipelines.specs.Table.{PipelineMap}
use Rattle.primitives.specs.declared.entry.Top.{Top}
use Rattle.primitives.specs.declared.kind.Kind.{Kind}
use Rattle.primitives.specs.declared.kind.Kind.TheVariants as kind
use Rattle.painter.specs.PlacedList.{PlacedList}
use Rattle.painter.specs.Painter.{image_kind, text_kind}
use Rattle.painter.specs.TopItems.{Around}
use Rattle.scene_flatten.specs.Entries.{primitive_kind, primitive_entry}
use Rattle.scene_flatten.specs.Tops.{top_of, top_at, primitive_tops}

-- where a primitive stands, as a top
abbrev lone_top : Around → PlacedList → Spot × Kind → Top
lone_top a l p = top_at a l p.0.node p.0.chain (primitive_entry l a.clips p.0 p.1 ∷ [])

shown_top : (a : Around) (l : PlacedList) (spot : Spot) (k : Kind) (p : Spot × Kind) → Some (spot, k) ≡ Some p → lone_top a l p ≡ lone_top a l (spot, k)
shown_top a l spot k p e = let same : (spot, k) ≡ p = cc in ap (lone_top a l) (sym same)

pub primitive_top : (ps : PipelineMap) (store : StoreModel) (a : Around) (l : PlacedList) (t : Tree) (p : Spot × Kind) → primitive_kind store l t ≡ Some p
    → lone_top a l p ≡ top_of ps store (record { around = a; list = l; item = t })
primitive_top ps store a l (solid o px) p e = shown_top a l o (kind.Solid px) p e
primitive_top ps store a l (image o i u v) p e = shown_top a l o (image_kind store l i u v) p e
primitive_top ps store a l (border o w t r b le ra) p e = shown_top a l o (kind.Border w t r b le ra) p e
primitive_top ps store a l (text o i px gs) p e = shown_top a l o (text_kind store l o.node i px gs) p e
primitive_top ps store a l (context q ts) p e = absurd cc
primitive_top ps store a l (iframe o q) p e = absurd cc
primitive_top ps store a l (hit_area o i) p e = absurd cc

-- so it is the top item of an item that shows it
pub primitive_is_top : (ps : PipelineMap) (store : StoreModel) (a : Around) (l : PlacedList) (t : Tree) (o : Option (Spot × Kind)) (p : Spot × Kind) (made : Top) (out after : List Top)
    → o ≡ primitive_kind store l t → o ≡ Some p → made ≡ lone_top a l p → after ≡ out ++ made ∷ []
    → after ≡ out ++ map (top_of ps store) (primitive_tops a l t (primitive_kind store l t))
primitive_is_top ps store a l t o p made out after e f g h =
    let shows : primitive_kind store l t ≡ Some p = sym e ∙ f in
    h
    ∙ ap (λ (x : Top). out ++ x ∷ []) (g ∙ primitive_top ps store a l t p shows)
    ∙ ap (λ (q : Option (Spot × Kind)). out ++ map (top_of ps store) (primitive_tops a l t q)) (sym shows)
