-- What is painted is a pixel.
use Rattle.std.proofs.Common.{◌≡◌, ℕ, zero, suc, ◌+◌, ◌<◌, ◌^◌, ℤ, Bool, true, false, if◌then◌else◌, List, map, length, Option, Some, None, refl, arith}
use Rattle.std.specs.FinMap as finite_map
use Rattle.std.specs.Option.{option_map}
use Rattle.wr_geom.specs.Bounds.{holds}
use Rattle.wr_geom.specs.declared.point.Point.{Point}
use Rattle.blend_rules.specs.declared.colour.Px.{Px}
use Rattle.blend_rules.specs.declared.mode.Mode.{Mode}
use Rattle.blend_rules.specs.declared.mode.Mode.TheVariants.{Normal}
use Rattle.blend_rules.specs.Colour.{IsPremultiplied, IsPixel, clear, scaled, blended}
use Rattle.blend_rules.proofs.Blends.{scaled_is_pixel, blend_is_premultiplied, blend_is_pixel, clear_is_pixel}
use Rattle.clip_masks.proofs.Chains.{chain_byte}
use Rattle.display_list.specs.declared.item.Spot.{Spot}
use Rattle.display_list.specs.declared.item.GlyphAt.{GlyphAt}
use Rattle.display_list.specs.declared.token.Push.{Push}
use Rattle.display_list.specs.ListModel.{ListModel}
use Rattle.display_list.specs.Trees.{Tree, solid, image, border, text, context, iframe, hit_area, Trees, none, more, told, IsTree, AreTrees}
use Rattle.display_list.proofs.TreeFacts.{list_trees}
use Rattle.image_store.specs.StoreModel.{StoreModel, IsStore}
use Rattle.spatial_tree.specs.Moves.{MovesModel}
use Rattle.pipelines.specs.Table.{pipeline_at, pipeline_list, IsListOf, AreByteOpacities}
use Rattle.primitives.specs.declared.kind.Kind.TheVariants as kind
use Rattle.primitives.specs.PrimitiveModel.{PrimitiveModel}
use Rattle.primitives.specs.Colours.{kind_colour, primitive_colour}
use Rattle.primitives.proofs.Colours.{colour_is_pixel, border_pixel, text_pixel}
use Rattle.painter.specs.PlacedList.{PlacedList, placed_at, node_point, item_rect, chain_clips, first_corner, iframe_clips, or_own, bound_opacity, opacity_of, is_plain}
use Rattle.painter.specs.Painter.{ScenePixel, ListPainter, image_kind, glyph_use, text_kind, primitive_of, under, paint_primitive, paint_group, paint_tree, paint_trees, paint_list, paint_levels}
use Rattle.painter.specs.Laws.{IsScenePixel, GivesPixels, ItemGivesPixel, ItemsGivePixel, PipelinesGivePixels, PipelinesGivePremultiplied}
use Rattle.painter.proofs.Enough.{placed}

-- ---- what is laid

-- a pixel under a cover, over a backdrop
pub laid_pixel : (m : Mode) (p : Px) (cover : ℕ) (backdrop : Px) → IsPixel p → cover < 2 ^ 8 → IsPixel backdrop → IsPixel (blended m (scaled p cover) backdrop)
laid_pixel m p cover backdrop is lt b = blend_is_pixel m (scaled p cover) backdrop (scaled_is_pixel p cover lt is).byte b.byte

-- a primitive of a pixel, under what its clips leave
primitive_pixel : (s : ScenePixel) (p : PrimitiveModel) (cover : ℕ) (backdrop : Px) → IsPixel (primitive_colour s.store p s.x s.y) → cover < 2 ^ 8 → IsPixel backdrop → IsPixel (paint_primitive s p cover backdrop)
primitive_pixel s p cover backdrop is lt b = laid_pixel Normal (primitive_colour s.store p s.x s.y) (under s p.clips cover) backdrop is (chain_byte p.clips cover s.x s.y lt) b

-- ---- the colours of items

-- a primitive's colour, by what it shows inside of its rectangle
shown_pixel : (store : StoreModel) (p : PrimitiveModel) (x y : ℤ) → IsPixel (kind_colour store p.rect p.kind x y) → IsPixel (primitive_colour store p x y)
unfolding primitive_colour
shown_pixel store p x y is = by_test (holds p.rect x y)
  where
    by_test : (t : Bool) → IsPixel (if t then kind_colour store p.rect p.kind x y else clear)
    by_test true = is
    by_test false = clear_is_pixel

pub solid_pixel : (s : ScenePixel) (l : PlacedList) (spot : Spot) (colour : Px) → IsPixel colour → IsPixel (primitive_colour s.store (primitive_of l spot (kind.Solid colour)) s.x s.y)
solid_pixel s l spot colour is = shown_pixel s.store (primitive_of l spot (kind.Solid colour)) s.x s.y is

pub image_pixel : (s : ScenePixel) (l : PlacedList) (spot : Spot) (key u v : ℕ) → IsStore s.store → IsPixel (primitive_colour s.store (primitive_of l spot (image_kind s.store l key u v)) s.x s.y)
image_pixel s l spot key u v h = colour_is_pixel s.store (primitive_of l spot (image_kind s.store l key u v)) s.x s.y h tt

pub border_item_pixel : (s : ScenePixel) (l : PlacedList) (n k : ℕ) (spot : Spot) (w : _) (top right bottom left_ : Px) (radii : _) → IsTree n k (border spot w top right bottom left_ radii)
    → IsPixel (primitive_colour s.store (primitive_of l spot (kind.Border w top right bottom left_ radii)) s.x s.y)
border_item_pixel s l n k spot w top right bottom left_ radii is =
    shown_pixel s.store (primitive_of l spot (kind.Border w top right bottom left_ radii)) s.x s.y
    (border_pixel (item_rect l spot) w (record { top = top; right = right; bottom = bottom; left = left_ }) radii s.x s.y (record { top = is.2; right = is.3; bottom = is.4; left = is.5 }))

pub text_item_pixel : (s : ScenePixel) (l : PlacedList) (spot : Spot) (font : ℕ) (colour : Px) (glyphs : List GlyphAt) → IsStore s.store → IsPixel colour
    → IsPixel (primitive_colour s.store (primitive_of l spot (text_kind s.store l spot.node font colour glyphs)) s.x s.y)
text_item_pixel s l spot font colour glyphs h is =
    shown_pixel s.store (primitive_of l spot (text_kind s.store l spot.node font colour glyphs)) s.x s.y
    (text_pixel s.store h l.pipeline font colour s.x s.y is (map (glyph_use s.store l.pipeline font (node_point l spot.node)) glyphs) clear clear_is_pixel)

-- ---- groups

or_own_byte : (set : Option ℕ) (own : ℕ) → ((opacity : ℕ) → set ≡ Some opacity → opacity < 2 ^ 8) → own < 2 ^ 8 → or_own set own < 2 ^ 8
or_own_byte None own h lt = lt
or_own_byte (Some set) own h lt = h set refl

opacity_byte : (moves : MovesModel) (prop : Option ℕ) (own : ℕ) → AreByteOpacities moves → own < 2 ^ 8 → bound_opacity moves prop own < 2 ^ 8
opacity_byte moves None own h lt = lt
opacity_byte moves (Some id) own h lt = or_own_byte (finite_map.get moves.opacities id) own (h id) lt

-- what a group's opacity leaves of its items
pub faded_pixel : (n k : ℕ) (l : PlacedList) (p : Push) (ts : Trees) (group : Px) → AreByteOpacities l.moves → IsTree n k (context p ts) → IsPixel group → IsPixel (scaled group (opacity_of l p))
faded_pixel n k l p ts group bytes is g = scaled_is_pixel group (opacity_of l p) (opacity_byte l.moves p.prop p.opacity bytes is.0.opacity) g

either_pixel : (b : Bool) (p q : Px) → IsPixel p → IsPixel q → IsPixel (if b then p else q)
either_pixel true p q is also = is
either_pixel false p q is also = also

-- ---- items

mutual
  pub tree_pixel : (inner : ListPainter) (s : ScenePixel) (n k : ℕ) (l : PlacedList) (t : Tree) (cover : ℕ) (backdrop : Px) → IsStore s.store → AreByteOpacities l.moves → IsTree n k t → GivesPixels inner
      → cover < 2 ^ 8 → IsPixel backdrop → IsPixel (paint_tree inner s l t cover backdrop)
  tree_pixel inner s n k l (solid o px) cover backdrop h bytes is gives lt b = primitive_pixel s (primitive_of l o (kind.Solid px)) cover backdrop (solid_pixel s l o px is.1) lt b
  tree_pixel inner s n k l (image o i u v) cover backdrop h bytes is gives lt b = primitive_pixel s (primitive_of l o (image_kind s.store l i u v)) cover backdrop (image_pixel s l o i u v h) lt b
  tree_pixel inner s n k l (border o w top r bo le ra) cover backdrop h bytes is gives lt b =
      primitive_pixel s (primitive_of l o (kind.Border w top r bo le ra)) cover backdrop (border_item_pixel s l n k o w top r bo le ra is) lt b
  tree_pixel inner s n k l (text o i px gs) cover backdrop h bytes is gives lt b =
      primitive_pixel s (primitive_of l o (text_kind s.store l o.node i px gs)) cover backdrop (text_item_pixel s l o i px gs h is.2) lt b
  tree_pixel inner s n k l (context p ts) cover backdrop h bytes is gives lt b =
      let group = paint_trees inner s l ts 255 clear in
      let its : IsPixel group = trees_pixel inner s n k l ts 255 clear h bytes is.1 gives (omega arith) clear_is_pixel in
      either_pixel (is_plain l p) (paint_trees inner s l ts cover backdrop) (paint_group s l p group cover backdrop)
      (trees_pixel inner s n k l ts cover backdrop h bytes is.1 gives lt b)
      (laid_pixel p.mode (scaled group (opacity_of l p)) (under s (chain_clips l p.chain) cover) backdrop (faded_pixel n k l p ts group bytes is its) (chain_byte (chain_clips l p.chain) cover s.x s.y lt) b)
  tree_pixel inner s n k l (iframe o q) cover backdrop h bytes is gives lt b = gives q (first_corner (item_rect l o)) (under s (iframe_clips l o) cover) backdrop (chain_byte (iframe_clips l o) cover s.x s.y lt) b
  tree_pixel inner s n k l (hit_area o i) cover backdrop h bytes is gives lt b = b

  pub trees_pixel : (inner : ListPainter) (s : ScenePixel) (n k : ℕ) (l : PlacedList) (ts : Trees) (cover : ℕ) (backdrop : Px) → IsStore s.store → AreByteOpacities l.moves → AreTrees n k ts → GivesPixels inner
      → cover < 2 ^ 8 → IsPixel backdrop → IsPixel (paint_trees inner s l ts cover backdrop)
  trees_pixel inner s n k l none cover backdrop h bytes are gives lt b = b
  trees_pixel inner s n k l (more t ts) cover backdrop h bytes are gives lt b =
      trees_pixel inner s n k l ts cover (paint_tree inner s l t cover backdrop) h bytes are.1 gives lt (tree_pixel inner s n k l t cover backdrop h bytes are.0 gives lt b)

pub item_pixel : ItemGivesPixel
item_pixel inner s l t cover backdrop h is gives lt b = tree_pixel inner s (length l.list.nodes + 1) (length l.list.chains) l t cover backdrop h is.opacities is.fields gives lt b

pub items_pixel : ItemsGivePixel
items_pixel inner s l ts cover backdrop h are gives lt b = trees_pixel inner s (length l.list.nodes + 1) (length l.list.chains) l ts cover backdrop h are.opacities are.fields gives lt b

-- ---- pipelines

list_pixel : (inner : ListPainter) (s : ScenePixel) (p : ℕ) (moves : MovesModel) (origin : Point) (o : Option ListModel) (cover : ℕ) (backdrop : Px) → IsStore s.store → AreByteOpacities moves
    → ((l : ListModel) → o ≡ Some l → IsListOf p l) → GivesPixels inner → cover < 2 ^ 8 → IsPixel backdrop → IsPixel (paint_list inner s (option_map (placed p moves origin) o) cover backdrop)
list_pixel inner s p moves origin None cover backdrop h bytes is gives lt b = b
list_pixel inner s p moves origin (Some l) cover backdrop h bytes is gives lt b =
    trees_pixel inner s (length l.nodes + 1) (length l.chains) (placed p moves origin l) (told l.items) cover backdrop h bytes (list_trees l (is l refl).list) gives lt b

pub levels_pixel : (n : ℕ) (s : ScenePixel) → IsScenePixel s → GivesPixels (paint_levels n s)
unfolding paint_levels
levels_pixel zero s is p origin cover backdrop lt b = b
levels_pixel (suc n) s is p origin cover backdrop lt b =
    list_pixel (paint_levels n s) s p (pipeline_at s.pipelines p).moves origin (pipeline_list s.pipelines p) cover backdrop is.store (is.pipelines.opacities p) (is.pipelines.each p) (levels_pixel n s is) lt b

pub pipelines_pixel : PipelinesGivePixels
pipelines_pixel s is p origin cover backdrop lt b = levels_pixel 64 s is p origin cover backdrop lt b

-- ---- premultiplied colours, whatever is stored

-- over a premultiplied colour, a painter of lists gives a premultiplied one
abbrev GivesPremultiplied : ListPainter → Type 0
GivesPremultiplied inner = (p : ℕ) (origin : Point) (cover : ℕ) (backdrop : Px) → IsPremultiplied backdrop → IsPremultiplied (inner p origin cover backdrop)

either_premultiplied : (b : Bool) (p q : Px) → IsPremultiplied p → IsPremultiplied q → IsPremultiplied (if b then p else q)
either_premultiplied true p q is also = is
either_premultiplied false p q is also = also

mutual
  tree_premultiplied : (inner : ListPainter) (s : ScenePixel) (l : PlacedList) (t : Tree) (cover : ℕ) (backdrop : Px) → GivesPremultiplied inner → IsPremultiplied backdrop → IsPremultiplied (paint_tree inner s l t cover backdrop)
  tree_premultiplied inner s l (solid o px) cover backdrop gives b = blend_is_premultiplied Normal _ backdrop
  tree_premultiplied inner s l (image o i u v) cover backdrop gives b = blend_is_premultiplied Normal _ backdrop
  tree_premultiplied inner s l (border o w top r bo le ra) cover backdrop gives b = blend_is_premultiplied Normal _ backdrop
  tree_premultiplied inner s l (text o i px gs) cover backdrop gives b = blend_is_premultiplied Normal _ backdrop
  tree_premultiplied inner s l (context p ts) cover backdrop gives b =
      either_premultiplied (is_plain l p) (paint_trees inner s l ts cover backdrop) (paint_group s l p (paint_trees inner s l ts 255 clear) cover backdrop)
      (trees_premultiplied inner s l ts cover backdrop gives b)
      (blend_is_premultiplied p.mode _ backdrop)
  tree_premultiplied inner s l (iframe o q) cover backdrop gives b = gives q (first_corner (item_rect l o)) (under s (iframe_clips l o) cover) backdrop b
  tree_premultiplied inner s l (hit_area o i) cover backdrop gives b = b

  trees_premultiplied : (inner : ListPainter) (s : ScenePixel) (l : PlacedList) (ts : Trees) (cover : ℕ) (backdrop : Px) → GivesPremultiplied inner → IsPremultiplied backdrop → IsPremultiplied (paint_trees inner s l ts cover backdrop)
  trees_premultiplied inner s l none cover backdrop gives b = b
  trees_premultiplied inner s l (more t ts) cover backdrop gives b =
      trees_premultiplied inner s l ts cover (paint_tree inner s l t cover backdrop) gives (tree_premultiplied inner s l t cover backdrop gives b)

list_premultiplied : (inner : ListPainter) (s : ScenePixel) (o : Option PlacedList) (cover : ℕ) (backdrop : Px) → GivesPremultiplied inner → IsPremultiplied backdrop → IsPremultiplied (paint_list inner s o cover backdrop)
list_premultiplied inner s None cover backdrop gives b = b
list_premultiplied inner s (Some l) cover backdrop gives b = trees_premultiplied inner s l (told l.list.items) cover backdrop gives b

levels_premultiplied : (n : ℕ) (s : ScenePixel) → GivesPremultiplied (paint_levels n s)
unfolding paint_levels
levels_premultiplied zero s p origin cover backdrop b = b
levels_premultiplied (suc n) s p origin cover backdrop b = list_premultiplied (paint_levels n s) s (placed_at s.pipelines p origin) cover backdrop (levels_premultiplied n s) b

pub pipelines_premultiplied : PipelinesGivePremultiplied
pipelines_premultiplied s p origin cover backdrop b = levels_premultiplied 64 s p origin cover backdrop b
