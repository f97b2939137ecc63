-- What top items paint in order.
use Rattle.std.proofs.Common.{◌≡◌, ℕ, zero, suc, ◌+◌, ◌<◌, ◌≤◌, Bool, true, false, if◌then◌else◌, List, [], ◌∷◌, ◌++◌, length, Option, Some, None, refl, sym, ap, ◌∙◌, arith}
use Rattle.std.specs.Option.{option_map}
use Rattle.std.proofs.lemmas.List.Sums.{fold-append}
use Rattle.wr_geom.specs.Bounds.{holds}
use Rattle.wr_geom.specs.declared.point.Point.{Point}
use Rattle.blend_rules.specs.declared.colour.Px.{Px}
use Rattle.blend_rules.specs.declared.mode.Mode.TheVariants.{Normal}
use Rattle.blend_rules.specs.Colour.{IsPixel, clear, scaled, blended}
use Rattle.blend_rules.proofs.Blends.{scaled_by_full, opaque_covers}
use Rattle.clip_masks.proofs.Chains.{chain_none, chain-append}
use Rattle.display_list.specs.declared.item.Spot.{Spot}
use Rattle.display_list.specs.ListModel.{ListModel}
use Rattle.display_list.specs.Trees.{Tree, solid, image, border, text, context, iframe, hit_area, Trees, none, more, told, IsTree, AreTrees, TreeNamesAbove, TreesNameAbove}
use Rattle.display_list.proofs.TreeFacts.{list_trees, fits_trees}
use Rattle.spatial_tree.specs.Moves.{MovesModel}
use Rattle.pipelines.specs.Table.{pipeline_at, pipeline_list, IsListOf, AreFit}
use Rattle.primitives.specs.declared.kind.Kind.TheVariants as kind
use Rattle.primitives.proofs.Colours.{colour_inside}
use Rattle.scene_limits.specs.Places.{zero_point}
use Rattle.painter.specs.PlacedList.{PlacedList, item_rect, chain_clips, first_corner, iframe_clips, is_plain}
use Rattle.painter.specs.Painter.{ScenePixel, ListPainter, primitive_of, under, paint_primitive, paint_group, paint_tree, paint_trees, paint_list, paint_pipeline}
use Rattle.painter.specs.TopItems.{Around, TopItem, TopLister, nothing_around, around_iframe, top_item, tree_tops, trees_tops, list_tops, pipeline_tops, paint_top}
use Rattle.painter.specs.Slices.{paint_tops}
use Rattle.painter.specs.Laws.{OpaqueSolidHides, TopsPaintTheScene}
use Rattle.painter.proofs.Enough.{placed}
use Rattle.painter.proofs.Levels.{list_painted, list_has_tops}

-- top items after others
tops_append : (s : ScenePixel) (xs ys : List TopItem) (backdrop : Px) → paint_tops s (xs ++ ys) backdrop ≡ paint_tops s ys (paint_tops s xs backdrop)
tops_append s xs ys backdrop = fold-append (λ (b : Px) (t : TopItem). paint_top s t b) backdrop xs ys

-- ---- an opaque solid

-- clips around an item, and then its own
under_both : (s : ScenePixel) (around : Around) (l : PlacedList) (spot : Spot) → under s (around.clips ++ chain_clips l spot.chain) 255 ≡ under s (chain_clips l spot.chain) (under s around.clips 255)
under_both s around l spot = chain-append around.clips (chain_clips l spot.chain) 255 s.x s.y

opaque_solid : (s : ScenePixel) (l : PlacedList) (spot : Spot) (colour : Px) (cover : ℕ) (backdrop : Px) → IsPixel colour → colour.a ≡ 255 → holds (item_rect l spot) s.x s.y ≡ true
    → under s (chain_clips l spot.chain) cover ≡ 255 → paint_primitive s (primitive_of l spot (kind.Solid colour)) cover backdrop ≡ colour
opaque_solid s l spot colour cover backdrop is full here all =
    let p = primitive_of l spot (kind.Solid colour) in
    ap (λ (c : Px). blended Normal (scaled c (under s (chain_clips l spot.chain) cover)) backdrop) (colour_inside s.store p s.x s.y here)
    ∙ ap (λ (c : ℕ). blended Normal (scaled colour c) backdrop) all
    ∙ ap (λ (c : Px). blended Normal c backdrop) (scaled_by_full colour)
    ∙ opaque_covers colour backdrop is.premultiplied full

pub opaque_hides : OpaqueSolidHides
opaque_hides s before t spot colour backdrop item is full here all =
    let b : Px = paint_tops s before backdrop in
    let cover : ℕ = under s t.around.clips 255 in
    tops_append s before (t ∷ []) backdrop
    ∙ ap (λ (x : Tree). paint_tree (paint_pipeline s) s t.list x cover b) item
    ∙ opaque_solid s t.list spot colour cover b is full here (sym (under_both s t.around t.list spot) ∙ all)

-- ---- all top items

-- the top items of the pipelines above one, painted in order, give what a painter gives of them
abbrev Paints : ScenePixel → ℕ → TopLister → ListPainter → Type 0
Paints s own tops inner =
    (q : ℕ) (origin : Point) (a : Around) (backdrop : Px) → own < q → q ≤ 63 → paint_tops s (tops q origin a) backdrop ≡ inner q origin (under s a.clips 255) backdrop

either_paints : (s : ScenePixel) (b : Bool) (xs ys : List TopItem) (backdrop p q : Px) → paint_tops s xs backdrop ≡ p → paint_tops s ys backdrop ≡ (if b then p else q)
    → paint_tops s (if b then xs else ys) backdrop ≡ (if b then p else q)
either_paints s true xs ys backdrop p q e f = e
either_paints s false xs ys backdrop p q e f = f

-- the clips around the items of an Iframe
under_iframe : (s : ScenePixel) (a : Around) (l : PlacedList) (spot : Spot) → under s (around_iframe a l spot).clips 255 ≡ under s (iframe_clips l spot) (under s a.clips 255)
under_iframe s a l spot = chain-append a.clips (iframe_clips l spot) 255 s.x s.y

mutual
  tree_paints : (s : ScenePixel) (own n k : ℕ) (a : Around) (l : PlacedList) (t : Tree) (backdrop : Px) → Paints s own (pipeline_tops s.pipelines) (paint_pipeline s) → IsTree n k t → TreeNamesAbove own t
      → paint_tops s (tree_tops (pipeline_tops s.pipelines) a l t) backdrop ≡ paint_tree (paint_pipeline s) s l t (under s a.clips 255) backdrop
  tree_paints s own n k a l (solid o px) backdrop h is above = refl
  tree_paints s own n k a l (image o i u v) backdrop h is above = refl
  tree_paints s own n k a l (border o w top r bo le ra) backdrop h is above = refl
  tree_paints s own n k a l (text o i px gs) backdrop h is above = refl
  tree_paints s own n k a l (context p ts) backdrop h is above =
      let cover = under s a.clips 255 in
      let inner = paint_pipeline s in
      either_paints s (is_plain l p) (trees_tops (pipeline_tops s.pipelines) a l ts) (top_item a l (context p ts)) backdrop (paint_trees inner s l ts cover backdrop)
      (paint_group s l p (paint_trees inner s l ts 255 clear) cover backdrop) (trees_paints s own n k a l ts backdrop h is.1 above) refl
  tree_paints s own n k a l (iframe o q) backdrop h is above =
      h q (first_corner (item_rect l o)) (around_iframe a l o) backdrop above is.1 ∙ ap (λ (c : ℕ). paint_pipeline s q (first_corner (item_rect l o)) c backdrop) (under_iframe s a l o)
  tree_paints s own n k a l (hit_area o i) backdrop h is above = refl

  trees_paints : (s : ScenePixel) (own n k : ℕ) (a : Around) (l : PlacedList) (ts : Trees) (backdrop : Px) → Paints s own (pipeline_tops s.pipelines) (paint_pipeline s) → AreTrees n k ts → TreesNameAbove own ts
      → paint_tops s (trees_tops (pipeline_tops s.pipelines) a l ts) backdrop ≡ paint_trees (paint_pipeline s) s l ts (under s a.clips 255) backdrop
  trees_paints s own n k a l none backdrop h are above = refl
  trees_paints s own n k a l (more t ts) backdrop h are above =
      tops_append s (tree_tops (pipeline_tops s.pipelines) a l t) (trees_tops (pipeline_tops s.pipelines) a l ts) backdrop
      ∙ ap (paint_tops s (trees_tops (pipeline_tops s.pipelines) a l ts)) (tree_paints s own n k a l t backdrop h are.0 above.0)
      ∙ trees_paints s own n k a l ts (paint_tree (paint_pipeline s) s l t (under s a.clips 255) backdrop) h are.1 above.1

list_paints : (s : ScenePixel) (p : ℕ) (moves : MovesModel) (origin : Point) (a : Around) (o : Option ListModel) (backdrop : Px) → Paints s p (pipeline_tops s.pipelines) (paint_pipeline s)
    → ((l : ListModel) → o ≡ Some l → IsListOf p l)
    → paint_tops s (list_tops (pipeline_tops s.pipelines) (option_map (placed p moves origin) o) a) backdrop ≡ paint_list (paint_pipeline s) s (option_map (placed p moves origin) o) (under s a.clips 255) backdrop
list_paints s p moves origin a None backdrop h is = refl
list_paints s p moves origin a (Some l) backdrop h is =
    let i = is l refl in
    trees_paints s p (length l.nodes + 1) (length l.chains) a (placed p moves origin l) (told l.items) backdrop h (list_trees l i.list) (fits_trees p l i.list i.fits)

-- by how many pipelines are left from p on
pipeline_paints : (m : ℕ) (s : ScenePixel) (p : ℕ) (origin : Point) (a : Around) (backdrop : Px) → AreFit s.pipelines → p < 64 → 64 ≤ m + p
    → paint_tops s (pipeline_tops s.pipelines p origin a) backdrop ≡ paint_pipeline s p origin (under s a.clips 255) backdrop
pipeline_paints zero s p origin a backdrop fit low le = absurd (omega arith)
pipeline_paints (suc m) s p origin a backdrop fit low le =
    ap (λ (ts : List TopItem). paint_tops s ts backdrop) (list_has_tops s.pipelines p origin a fit)
    ∙ list_paints s p (pipeline_at s.pipelines p).moves origin a (pipeline_list s.pipelines p) backdrop
    (λ q o b c up last. pipeline_paints m s q o b c fit (omega (arith, last)) (omega (arith, up, le)))
    (λ l e. fit.each p l e)
    ∙ sym (list_painted s p origin (under s a.clips 255) backdrop fit)

-- no clip stands around the root
under_nothing : (s : ScenePixel) → under s nothing_around.clips 255 ≡ 255
under_nothing s = chain_none 255 s.x s.y

pub tops_paint : TopsPaintTheScene
tops_paint s backdrop fit =
    pipeline_paints 64 s 0 zero_point nothing_around backdrop fit (omega arith) (omega arith) ∙ ap (λ (c : ℕ). paint_pipeline s 0 zero_point c backdrop) (under_nothing s)
