-- Where items change nothing: outside of their rectangles, under a cover of 0, and where their clips leave nothing.
use Rattle.std.proofs.Common.{◌≡◌, ℕ, zero, suc, ◌+◌, ◌<◌, ◌^◌, Bool, true, false, if◌then◌else◌, List, [], ◌∷◌, length, Option, Some, None, refl, sym, ap, ◌∙◌, arith}
use Rattle.std.specs.Option.{option_map}
use Rattle.std.proofs.lemmas.Bool.{and_parts}
use Rattle.wr_geom.specs.Bounds.{holds}
use Rattle.wr_geom.specs.declared.point.Point.{Point}
use Rattle.blend_rules.specs.declared.colour.Px.{Px}
use Rattle.blend_rules.specs.declared.mode.Mode.{Mode}
use Rattle.blend_rules.specs.declared.mode.Mode.TheVariants.{Normal}
use Rattle.blend_rules.specs.Colour.{IsPixel, clear, product, scaled, blended}
use Rattle.blend_rules.proofs.Blends.{scaled_by_none, scaled_clear, clear_source_leaves, clear_is_pixel}
use Rattle.blend_rules.proofs.Products.{product-zero_right}
use Rattle.clip_masks.specs.Clips.{rect_clip}
use Rattle.clip_masks.specs.Coverage.{chain_coverage}
use Rattle.clip_masks.proofs.Chains.{chain_byte, chain_zero, chain-append}
use Rattle.clip_masks.proofs.Moves.{rect_clip_coverage}
use Rattle.clip_masks.specs.declared.clip.Clip.{Clip}
use Rattle.clip_tree.proofs.Clips.{none_leaves_all}
use Rattle.display_list.specs.declared.item.Spot.{Spot}
use Rattle.display_list.specs.declared.token.Push.{Push}
use Rattle.display_list.specs.ListModel.{ListModel}
use Rattle.display_list.specs.Trees.{Tree, solid, image, border, text, context, iframe, hit_area, Trees, none, more, told, IsTree, AreTrees}
use Rattle.display_list.proofs.TreeFacts.{list_trees}
use Rattle.image_store.specs.StoreModel.{IsStore}
use Rattle.spatial_tree.specs.Moves.{MovesModel}
use Rattle.pipelines.specs.Table.{pipeline_at, pipeline_list, IsListOf, AreByteOpacities}
use Rattle.primitives.specs.declared.kind.Kind.{Kind}
use Rattle.primitives.specs.declared.kind.Kind.TheVariants as kind
use Rattle.primitives.proofs.Colours.{colour_outside}
use Rattle.painter.specs.PlacedList.{PlacedList, node_point, item_rect, chain_clips, first_corner, iframe_clips, opacity_of, is_none, stands_around, is_plain}
use Rattle.painter.specs.Painter.{ScenePixel, ListPainter, image_kind, text_kind, primitive_of, under, paint_primitive, paint_group, paint_tree, paint_trees, paint_list, paint_levels, paint_pipeline}
use Rattle.painter.specs.TopItems.{around_iframe, list_tops, tops_in, own_chain}
use Rattle.painter.specs.Laws.{IsScenePixel, GivesPixels, PrimitiveStaysInside, ItemStaysInside, IframeStaysInside}
use Rattle.painter.specs.Laws.{NothingUnderNoCover, NothingWhereClippedAway, EmptyIframePaintsNothing, EmptyIframeHasNoTops}
use Rattle.painter.proofs.Enough.{placed}
use Rattle.painter.proofs.Pixels.{solid_pixel, image_pixel, border_item_pixel, text_item_pixel, faded_pixel, trees_pixel, levels_pixel}

-- ---- outside of a rectangle

pub primitive_inside : PrimitiveStaysInside
primitive_inside s p cover backdrop out b =
    ap (λ (c : Px). blended Normal (scaled c (under s p.clips cover)) backdrop) (colour_outside s.store p s.x s.y out)
    ∙ ap (λ (c : Px). blended Normal c backdrop) (scaled_clear (under s p.clips cover))
    ∙ clear_source_leaves Normal backdrop b.premultiplied b.byte

-- an item's primitive
shown_inside : (s : ScenePixel) (l : PlacedList) (o spot : Spot) (k : Kind) (cover : ℕ) (backdrop : Px) → Some o ≡ Some spot → holds (item_rect l spot) s.x s.y ≡ false → IsPixel backdrop
    → paint_primitive s (primitive_of l o k) cover backdrop ≡ backdrop
shown_inside s l o spot k cover backdrop e out b =
    let same : o ≡ spot = cc in
    primitive_inside s (primitive_of l o k) cover backdrop (ap (λ (x : Spot). holds (item_rect l x) s.x s.y) same ∙ out) b

pub item_inside : ItemStaysInside
item_inside inner s l (solid o px) spot cover backdrop e out b = shown_inside s l o spot (kind.Solid px) cover backdrop e out b
item_inside inner s l (image o i u v) spot cover backdrop e out b = shown_inside s l o spot (image_kind s.store l i u v) cover backdrop e out b
item_inside inner s l (border o w top r bo le ra) spot cover backdrop e out b = shown_inside s l o spot (kind.Border w top r bo le ra) cover backdrop e out b
item_inside inner s l (text o i px gs) spot cover backdrop e out b = shown_inside s l o spot (text_kind s.store l o.node i px gs) cover backdrop e out b
item_inside inner s l (context p ts) spot cover backdrop e out b = absurd cc
item_inside inner s l (iframe o q) spot cover backdrop e out b = absurd cc
item_inside inner s l (hit_area o i) spot cover backdrop e out b = absurd cc

-- ---- where no cover is left

-- under a cover of 0, a painter of lists leaves each pixel
abbrev LeavesUnderNone : ListPainter → Type 0
LeavesUnderNone inner = (p : ℕ) (origin : Point) (backdrop : Px) → IsPixel backdrop → inner p origin 0 backdrop ≡ backdrop

-- a pixel of which nothing is left
laid_none : (m : Mode) (p : Px) (cover : ℕ) (backdrop : Px) → IsPixel p → cover ≡ 0 → IsPixel backdrop → blended m (scaled p cover) backdrop ≡ backdrop
laid_none m p cover backdrop is e b =
    ap (λ (c : ℕ). blended m (scaled p c) backdrop) e ∙ ap (λ (c : Px). blended m c backdrop) (scaled_by_none p is) ∙ clear_source_leaves m backdrop b.premultiplied b.byte

no_chain : (chain : Option ℕ) → is_none chain ≡ true → chain ≡ None
no_chain None e = refl
no_chain (Some k) e = absurd cc

plain_chain : (l : PlacedList) (p : Push) → is_plain l p ≡ true → p.chain ≡ None
unfolding stands_around
plain_chain l p e = no_chain p.chain (and_parts _ _ e).1

-- a plain context's chain leaves the cover
plain_under : (s : ScenePixel) (l : PlacedList) (p : Push) (cover : ℕ) → is_plain l p ≡ true → under s (chain_clips l p.chain) cover ≡ cover
plain_under s l p cover e = ap (λ (chain : Option ℕ). under s (chain_clips l chain) cover) (plain_chain l p e) ∙ none_leaves_all l.list (node_point l) cover s.x s.y

-- what a chain leaves nothing of, an Iframe's rectangle brings nothing of back
iframe_none : (s : ScenePixel) (l : PlacedList) (spot : Spot) (cover : ℕ) → under s (chain_clips l spot.chain) cover ≡ 0 → under s (iframe_clips l spot) cover ≡ 0
iframe_none s l spot cover e =
    let last : List Clip = rect_clip (item_rect l spot) ∷ [] in
    chain-append (chain_clips l spot.chain) last cover s.x s.y ∙ ap (λ (c : ℕ). chain_coverage last c s.x s.y) e ∙ chain_zero last s.x s.y

either_is : (b : Bool) (p q backdrop : Px) → (b ≡ true → p ≡ backdrop) → (b ≡ false → q ≡ backdrop) → (if b then p else q) ≡ backdrop
either_is true p q backdrop f g = f refl
either_is false p q backdrop f g = g refl

mutual
  clipped_tree : (inner : ListPainter) (s : ScenePixel) (n k : ℕ) (l : PlacedList) (t : Tree) (cover : ℕ) (backdrop : Px) → IsStore s.store → AreByteOpacities l.moves → IsTree n k t → GivesPixels inner → LeavesUnderNone inner
      → under s (chain_clips l (own_chain t)) cover ≡ 0 → IsPixel backdrop → paint_tree inner s l t cover backdrop ≡ backdrop
  clipped_tree inner s n k l (solid o px) cover backdrop h bytes is gives leaves e b = laid_none Normal _ (under s (chain_clips l o.chain) cover) backdrop (solid_pixel s l o px is.1) e b
  clipped_tree inner s n k l (image o i u v) cover backdrop h bytes is gives leaves e b = laid_none Normal _ (under s (chain_clips l o.chain) cover) backdrop (image_pixel s l o i u v h) e b
  clipped_tree inner s n k l (border o w top r bo le ra) cover backdrop h bytes is gives leaves e b =
      laid_none Normal _ (under s (chain_clips l o.chain) cover) backdrop (border_item_pixel s l n k o w top r bo le ra is) e b
  clipped_tree inner s n k l (text o i px gs) cover backdrop h bytes is gives leaves e b = laid_none Normal _ (under s (chain_clips l o.chain) cover) backdrop (text_item_pixel s l o i px gs h is.2) e b
  clipped_tree inner s n k l (context p ts) cover backdrop h bytes is gives leaves e b =
      let group = paint_trees inner s l ts 255 clear in
      let its : IsPixel group = trees_pixel inner s n k l ts 255 clear h bytes is.1 gives (omega arith) clear_is_pixel in
      either_is (is_plain l p) (paint_trees inner s l ts cover backdrop) (paint_group s l p group cover backdrop) backdrop
      (λ plain. ap (λ (c : ℕ). paint_trees inner s l ts c backdrop) (sym (plain_under s l p cover plain) ∙ e) ∙ bare_trees inner s n k l ts backdrop h bytes is.1 gives leaves b)
      (λ _. laid_none p.mode (scaled group (opacity_of l p)) (under s (chain_clips l p.chain) cover) backdrop (faded_pixel n k l p ts group bytes is its) e b)
  clipped_tree inner s n k l (iframe o q) cover backdrop h bytes is gives leaves e b =
      ap (λ (c : ℕ). inner q (first_corner (item_rect l o)) c backdrop) (iframe_none s l o cover e) ∙ leaves q (first_corner (item_rect l o)) backdrop b
  clipped_tree inner s n k l (hit_area o i) cover backdrop h bytes is gives leaves e b = refl

  -- items under a cover of 0
  bare_trees : (inner : ListPainter) (s : ScenePixel) (n k : ℕ) (l : PlacedList) (ts : Trees) (backdrop : Px) → IsStore s.store → AreByteOpacities l.moves → AreTrees n k ts → GivesPixels inner → LeavesUnderNone inner
      → IsPixel backdrop → paint_trees inner s l ts 0 backdrop ≡ backdrop
  bare_trees inner s n k l none backdrop h bytes are gives leaves b = refl
  bare_trees inner s n k l (more t ts) backdrop h bytes are gives leaves b =
      ap (paint_trees inner s l ts 0) (clipped_tree inner s n k l t 0 backdrop h bytes are.0 gives leaves (chain_zero (chain_clips l (own_chain t)) s.x s.y) b)
      ∙ bare_trees inner s n k l ts backdrop h bytes are.1 gives leaves b

-- ---- pipelines under a cover of 0

bare_list : (inner : ListPainter) (s : ScenePixel) (p : ℕ) (moves : MovesModel) (origin : Point) (o : Option ListModel) (backdrop : Px) → IsStore s.store → AreByteOpacities moves
    → ((l : ListModel) → o ≡ Some l → IsListOf p l) → GivesPixels inner → LeavesUnderNone inner → IsPixel backdrop → paint_list inner s (option_map (placed p moves origin) o) 0 backdrop ≡ backdrop
bare_list inner s p moves origin None backdrop h bytes is gives leaves b = refl
bare_list inner s p moves origin (Some l) backdrop h bytes is gives leaves b =
    bare_trees inner s (length l.nodes + 1) (length l.chains) (placed p moves origin l) (told l.items) backdrop h bytes (list_trees l (is l refl).list) gives leaves b

bare_levels : (n : ℕ) (s : ScenePixel) → IsScenePixel s → LeavesUnderNone (paint_levels n s)
unfolding paint_levels
bare_levels zero s is p origin backdrop b = refl
bare_levels (suc n) s is p origin backdrop b =
    bare_list (paint_levels n s) s p (pipeline_at s.pipelines p).moves origin (pipeline_list s.pipelines p) backdrop is.store (is.pipelines.opacities p) (is.pipelines.each p) (levels_pixel n s is) (bare_levels n s is) b

pub clipped_away : NothingWhereClippedAway
clipped_away s l t cover backdrop is item e b =
    clipped_tree (paint_pipeline s) s (length l.list.nodes + 1) (length l.list.chains) l t cover backdrop is.store item.opacities item.fields (levels_pixel 64 s is) (bare_levels 64 s is) e b

pub no_cover : NothingUnderNoCover
no_cover s l t backdrop is item b = clipped_away s l t 0 backdrop is item (chain_zero (chain_clips l (own_chain t)) s.x s.y) b

-- ---- Iframes

-- outside of a rectangle, its clip leaves nothing
rect_none : (s : ScenePixel) (l : PlacedList) (spot : Spot) (cover : ℕ) → cover < 2 ^ 8 → holds (item_rect l spot) s.x s.y ≡ false → chain_coverage (rect_clip (item_rect l spot) ∷ []) cover s.x s.y ≡ 0
unfolding chain_coverage
rect_none s l spot cover lt out =
    ap (product cover) (rect_clip_coverage (item_rect l spot) s.x s.y ∙ ap (λ (t : Bool). if t then 255 else 0) out) ∙ product-zero_right cover lt

iframe_outside : (s : ScenePixel) (l : PlacedList) (spot : Spot) (cover : ℕ) → cover < 2 ^ 8 → holds (item_rect l spot) s.x s.y ≡ false → under s (iframe_clips l spot) cover ≡ 0
iframe_outside s l spot cover lt out =
    chain-append (chain_clips l spot.chain) (rect_clip (item_rect l spot) ∷ []) cover s.x s.y
    ∙ rect_none s l spot (under s (chain_clips l spot.chain) cover) (chain_byte (chain_clips l spot.chain) cover s.x s.y lt) out

pub iframe_inside : IframeStaysInside
iframe_inside s l spot pipeline cover backdrop is lt out b =
    ap (λ (c : ℕ). paint_pipeline s pipeline (first_corner (item_rect l spot)) c backdrop) (iframe_outside s l spot cover lt out) ∙ bare_levels 64 s is pipeline (first_corner (item_rect l spot)) backdrop b

pub empty_iframe : EmptyIframePaintsNothing
unfolding paint_levels
empty_iframe s l spot pipeline cover backdrop e =
    ap (λ (o : Option ListModel). paint_list (paint_levels 63 s) s (option_map (placed pipeline (pipeline_at s.pipelines pipeline).moves (first_corner (item_rect l spot))) o) (under s (iframe_clips l spot) cover) backdrop) e

pub empty_tops : EmptyIframeHasNoTops
unfolding tops_in
empty_tops ps a l spot pipeline e =
    ap (λ (o : Option ListModel). list_tops (tops_in 63 ps) (option_map (placed pipeline (pipeline_at ps pipeline).moves (first_corner (item_rect l spot))) o) (around_iframe a l spot)) e
