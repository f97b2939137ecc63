-- Items of a scene that breaks no limit can be painted.
use Rattle.std.proofs.Common.{◌≡◌, ℕ, zero, suc, ◌+◌, ◌<◌, ◌≤◌, ◌^◌, ℤ, pos, neg_ℤ, ◌+ℤ◌, ◌≤ℤ◌, int_le, true, List, [], ◌∷◌, ◌++◌, length, get_or, Option, Some, None, refl, sym, ap, ap₂, subst, ◌∙◌, arith}
use Rattle.std.proofs.Math.IntN.{+ℤ_comm}
use Rattle.std.proofs.lemmas.Int.{ints}
use Rattle.std.proofs.lemmas.Bool.{and_parts}
use Rattle.std.proofs.lemmas.Option.{none-some}
use Rattle.std.specs.Option.{option_map}
use Rattle.wr_geom.specs.declared.point.Point.{Point}
use Rattle.display_list.specs.ListModel.{ListModel}
use Rattle.display_list.specs.Levels.{totals_of}
use Rattle.display_list.specs.declared.item.Item.{Item}
use Rattle.display_list.specs.declared.item.Spot.{Spot}
use Rattle.display_list.specs.Trees.{Tree, solid, image, border, text, context, iframe, hit_area, Trees, none, more, told, tree_of, trees_of, nesting_of}
use Rattle.display_list.proofs.TreeFacts.{list_trees, fits_trees, trees_are_low}
use Rattle.list_summary.specs.declared.iframe.Iframe.{Iframe}
use Rattle.list_summary.specs.Iframes.{tree_iframes, trees_iframes, summary_of}
use Rattle.spatial_tree.specs.Moves.{MovesModel}
use Rattle.spatial_tree.proofs.Places.{offset-root}
use Rattle.spatial_tree.proofs.Distances.{within_more}
use Rattle.pipelines.specs.Listed.{ListedModel}
use Rattle.pipelines.specs.declared.pipeline.Pipeline.{Pipeline}
use Rattle.pipelines.specs.Table.{PipelineMap, listed_list, pipeline_list, pipeline_at, AreFit}
use Rattle.spatial_tree.specs.Offsets.{IsOrigin, IsWithin, offset_of}
use Rattle.scene_limits.specs.Limits.{is_in_reach, is_point_in_reach, are_in_reach}
use Rattle.scene_limits.specs.Places.{iframe_origin, node_places}
use Rattle.scene_limits.proofs.Within.{nodes_in_reach, iframes_in_reach}
use Rattle.painter.specs.PlacedList.{PlacedList, placed_at, item_rect, first_corner, node_point}
use Rattle.painter.specs.Facts.{Reaches, IsPlaced, TreeReaches, TreesReach, CanPaint, CanPaintAll}
use Rattle.painter.proofs.Enough.{placed}

-- ---- what is in reach

le_is : (a b : ℤ) → int_le a b ≡ true → a ≤ℤ b
le_is a b e = grind (arith, ints)

axis_within : (z : ℤ) → is_in_reach z ≡ true → (neg_ℤ (pos (2 ^ 27)) ≤ℤ z) × (z ≤ℤ pos (2 ^ 27))
unfolding is_in_reach
axis_within z e =
    let parts = and_parts (int_le (neg_ℤ (pos (2 ^ 27))) z) (int_le z (pos (2 ^ 27))) e in
    (le_is (neg_ℤ (pos (2 ^ 27))) z parts.0, le_is z (pos (2 ^ 27)) parts.1)

reach_within : (p : Point) → is_point_in_reach p ≡ true → IsWithin (2 ^ 27) p
reach_within p e =
    let parts = and_parts (is_in_reach p.x) (is_in_reach p.y) e in
    let x = axis_within p.x parts.0 in
    let y = axis_within p.y parts.1 in
    record { left = x.0; right = x.1; top = y.0; bottom = y.1 }

-- ---- one item of several

pub item_can : (ps : PipelineMap) (l : PlacedList) (is : List Item) (k : ℕ) (i : Item) → CanPaintAll ps l (trees_of is) → k < length is → i ≡ get_or is k i → CanPaint ps l (tree_of i)
item_can ps l [] k i h lt e = absurd (omega arith)
item_can ps l (j ∷ is) zero i h lt e = subst (λ (o : Item). CanPaint ps l (tree_of o)) (sym e) (record { fields = h.fields.0; above = h.above.0; reach = h.reach.0 })
item_can ps l (j ∷ is) (suc k) i h lt e = item_can ps l is k i (record { fields = h.fields.1; above = h.above.1; reach = h.reach.1 }) (omega (arith, lt)) e

-- the items in a context
pub inner_can : (ps : PipelineMap) (l : PlacedList) (p : _) (ts : Trees) → CanPaint ps l (context p ts) → CanPaintAll ps l ts
inner_can ps l p ts h = record { fields = h.fields.1; above = h.above; reach = h.reach }

-- ---- what the Iframes of a list show

abbrev Each : (Iframe → Type 0) → List Iframe → Type 0
Each R [] = Unit {0}
Each R (f ∷ fs) = R f × Each R fs

each_at : (R : Iframe → Type 0) (fs : List Iframe) → ((k : ℕ) (d : Iframe) → k < length fs → R (get_or fs k d)) → Each R fs
each_at R [] h = tt
each_at R (f ∷ fs) h = (h 0 f (omega arith), each_at R fs (λ k d lt. h (suc k) d (omega (arith, lt))))

each_first : (R : Iframe → Type 0) (fs gs : List Iframe) → Each R (fs ++ gs) → Each R fs
each_first R [] gs h = tt
each_first R (f ∷ fs) gs h = (h.0, each_first R fs gs h.1)

each_last : (R : Iframe → Type 0) (fs gs : List Iframe) → Each R (fs ++ gs) → Each R gs
each_last R [] gs h = h
each_last R (f ∷ fs) gs h = each_last R fs gs h.1

abbrev ShowsInReach : PipelineMap → PlacedList → Iframe → Type 0
ShowsInReach ps l f = are_in_reach (node_places 64 ps f.pipeline (iframe_origin l.list.nodes l.moves l.origin f)) ≡ true

-- a sum on each axis, in either order
same_corner : (l : PlacedList) (o : Spot) (a : Point) → a ≡ node_point l o.node
    → (let p : Point = record { x = a.x +ℤ o.rect.x0; y = a.y +ℤ o.rect.y0 } in p) ≡ first_corner (item_rect l o)
same_corner l o a e =
    let across : a.x +ℤ o.rect.x0 ≡ o.rect.x0 +ℤ (node_point l o.node).x = ap (λ (q : Point). q.x +ℤ o.rect.x0) e ∙ +ℤ_comm (node_point l o.node).x o.rect.x0 in
    let down : a.y +ℤ o.rect.y0 ≡ o.rect.y0 +ℤ (node_point l o.node).y = ap (λ (q : Point). q.y +ℤ o.rect.y0) e ∙ +ℤ_comm (node_point l o.node).y o.rect.y0 in
    ap₂ (λ x y. (let p : Point = record { x = x; y = y } in p)) across down

mutual
  tree_reaches : (ps : PipelineMap) (l : PlacedList) (counts : List ℕ) (d : ℕ) (t : Tree) → Each (ShowsInReach ps l) (tree_iframes counts d t) → TreeReaches ps l t
  tree_reaches ps l counts d (solid o px) h = tt
  tree_reaches ps l counts d (image o i u v) h = tt
  tree_reaches ps l counts d (border o w t r b le ra) h = tt
  tree_reaches ps l counts d (text o i px gs) h = tt
  tree_reaches ps l counts d (context p ts) h = trees_reach ps l counts (d + 1) ts h
  tree_reaches ps l counts d (iframe o q) h = subst (λ (p : Point). are_in_reach (node_places 64 ps q p) ≡ true) (same_corner l o (node_point l o.node) refl) h.0
  tree_reaches ps l counts d (hit_area o i) h = tt

  trees_reach : (ps : PipelineMap) (l : PlacedList) (counts : List ℕ) (d : ℕ) (ts : Trees) → Each (ShowsInReach ps l) (trees_iframes counts d ts) → TreesReach ps l ts
  trees_reach ps l counts d none h = tt
  trees_reach ps l counts d (more t ts) h = (
    tree_reaches ps l counts d t (each_first (ShowsInReach ps l) (tree_iframes counts d t) (trees_iframes counts d ts) h),
    trees_reach ps l counts d ts (each_last (ShowsInReach ps l) (tree_iframes counts d t) (trees_iframes counts d ts) h),
  )

-- ---- the list of a pipeline in reach

pub list_placed : (ps : PipelineMap) (p : ℕ) (origin : Point) (l : ListModel) → AreFit ps → pipeline_list ps p ≡ Some l → Reaches ps p origin → IsPlaced (placed p (pipeline_at ps p).moves origin l)
list_placed ps p origin l fit is reach = record { nodes = λ node le. reach_within (offset_of l.nodes (pipeline_at ps p).moves origin node) (nodes_in_reach ps p origin l node fit is le reach) }

pub list_can : (ps : PipelineMap) (p : ℕ) (origin : Point) (l : ListModel) → AreFit ps → pipeline_list ps p ≡ Some l → Reaches ps p origin → CanPaintAll ps (placed p (pipeline_at ps p).moves origin l) (told l.items)
list_can ps p origin l fit is reach =
    let of_list = fit.each p l is in
    let pl = placed p (pipeline_at ps p).moves origin l in
    record {
      fields = list_trees l of_list.list;
      above = fits_trees p l of_list.list of_list.fits;
      reach = trees_reach ps pl (totals_of l.chains) 0 (told l.items) (each_at (ShowsInReach ps pl) (summary_of l).iframes (λ k d lt. iframes_in_reach ps p origin l k d fit is lt reach));
    }

-- the same of what a pipeline has
pub has_placed : (ps : PipelineMap) (p : ℕ) (origin : Point) (has : Pipeline) (listed : ListedModel) (l : ListModel) (m : MovesModel) → AreFit ps → has ≡ pipeline_at ps p → has.listed ≡ Some listed → l ≡ listed.list → m ≡ has.moves
    → Reaches ps p origin → IsPlaced (placed p m origin l)
has_placed ps p origin has listed l m fit is some of moves reach =
    subst (λ (n : MovesModel). IsPlaced (placed p n origin l)) (sym (moves ∙ ap (λ (h : Pipeline). h.moves) is))
    (list_placed ps p origin l fit (ap (λ (h : Pipeline). listed_list h.listed) (sym is) ∙ ap listed_list some ∙ ap (λ (x : ListModel). (let o : Option ListModel = Some x in o)) (sym of)) reach)

pub origin_within : (l : PlacedList) → IsPlaced l → IsOrigin l.origin
origin_within l h = subst IsOrigin (offset-root l.list.nodes l.moves l.origin) (within_more (2 ^ 27) (2 ^ 28) (node_point l 0) (omega arith) (h.nodes 0 (omega arith)))

-- ---- a list that is opened

-- its number, how deep contexts nest in it, and that its items can be painted
pub record IsOpened (ps : PipelineMap) (p : ℕ) (l : PlacedList) (ts : Trees) : Type 0 where
  pub number : l.pipeline ≡ p
  pub low : nesting_of ts ≤ 64
  pub can : CanPaintAll ps l ts

abbrev or_else : PlacedList → Option PlacedList → PlacedList
or_else d None = d
or_else d (Some l) = l

opened_by : (ps : PipelineMap) (p : ℕ) (origin : Point) (o : Option ListModel) (l : PlacedList) (ts : Trees) → AreFit ps → Reaches ps p origin → pipeline_list ps p ≡ o
    → option_map (placed p (pipeline_at ps p).moves origin) o ≡ Some l → told l.list.items ≡ ts → IsOpened ps p l ts
opened_by ps p origin None l ts fit reach is e f = absurd (none-some l e)
opened_by ps p origin (Some list) l ts fit reach is e f =
    let here = placed p (pipeline_at ps p).moves origin list in
    let same : here ≡ l = ap (or_else here) e in
    let trees : told list.items ≡ ts = ap (λ (k : PlacedList). told k.list.items) same ∙ f in
    record {
      number = ap (λ (k : PlacedList). k.pipeline) (sym same);
      low = subst (λ (us : Trees). nesting_of us ≤ 64) trees (trees_are_low list (fit.each p list is).list);
      can = subst (λ (k : PlacedList). CanPaintAll ps k ts) same (subst (λ (us : Trees). CanPaintAll ps here us) trees (list_can ps p origin list fit is reach));
    }

pub opened : (ps : PipelineMap) (p : ℕ) (origin : Point) (l : PlacedList) (ts : Trees) → AreFit ps → Reaches ps p origin → placed_at ps p origin ≡ Some l → told l.list.items ≡ ts → IsOpened ps p l ts
opened ps p origin l ts fit reach e f = opened_by ps p origin (pipeline_list ps p) l ts fit reach refl e f
