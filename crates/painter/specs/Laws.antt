-- What holds of painted items, pipelines, top items and slices, as laws on the definitions.
use Rattle.std.specs.Prelude.{◌≡◌, ◌≢◌, ℕ, ◌+◌, ◌<◌, ◌≤◌, ◌^◌, Bool, true, false, not, List, [], ◌∷◌, ◌++◌, length, All, Option, Some, None, IsTrue, IsFalse}
use Rattle.wr_geom.specs.Bounds.{holds}
use Rattle.wr_geom.specs.declared.point.Point.{Point}
use Rattle.blend_rules.specs.declared.colour.Px.{Px}
use Rattle.blend_rules.specs.declared.mode.Mode.TheVariants.{Normal}
use Rattle.blend_rules.specs.Colour.{IsPremultiplied, IsPixel, clear, blended}
use Rattle.display_list.specs.declared.item.Spot.{Spot}
use Rattle.display_list.specs.declared.node.Node.{Node}
use Rattle.display_list.specs.declared.token.Push.{Push}
use Rattle.display_list.specs.Trees.{Tree, solid, image, border, text, context, iframe, hit_area, Trees, IsTree, AreTrees}
use Rattle.image_store.specs.StoreModel.{IsStore}
use Rattle.pipelines.specs.Table.{PipelineMap, pipeline_list, AreByteOpacities, AreFit}
use Rattle.primitives.specs.PrimitiveModel.{PrimitiveModel}
use Rattle.scene_limits.specs.Places.{zero_point}
use Rattle.spatial_tree.specs.Homes.{root_scroll_of}
use Rattle.slice_rules.specs.Homes.{Home}
use Rattle.painter.specs.Frames.{root_frame_of, scroll_at}
use Rattle.painter.specs.PlacedList.{PlacedList, placed_at, item_rect, chain_clips, opacity_of, is_plain}
use Rattle.painter.specs.Painter.{ScenePixel, ListPainter, under, paint_primitive, paint_tree, paint_trees, paint_list, paint_levels, paint_pipeline}
use Rattle.painter.specs.TopItems.{Around, TopItem, TopLister, tree_tops, trees_tops, list_tops, tops_in, pipeline_tops, top_items, own_chain, home_of}
use Rattle.painter.specs.Slices.{paint_tops, picture_over}

-- ---- what is drawn

-- the images and masks are whole, each list fits its pipeline, and opacities are bytes
pub record IsScenePixel (s : ScenePixel) : Type 0 where
  pub store : IsStore s.store
  pub pipelines : AreFit s.pipelines

-- the fields of an item are checked against the list, of which the opacities are bytes
pub record IsItemOf (l : PlacedList) (t : Tree) : Type 0 where
  pub fields : IsTree (length l.list.nodes + 1) (length l.list.chains) t
  pub opacities : AreByteOpacities l.moves

-- so are the fields of items
pub record AreItemsOf (l : PlacedList) (ts : Trees) : Type 0 where
  pub fields : AreTrees (length l.list.nodes + 1) (length l.list.chains) ts
  pub opacities : AreByteOpacities l.moves

-- under a byte of cover and over a pixel, a painter of lists gives a pixel
abbrev pub GivesPixels : ListPainter → Type 0
GivesPixels inner =
    (p : ℕ) (origin : Point) (cover : ℕ) (backdrop : Px) → cover < 2 ^ 8 → IsPixel backdrop → IsPixel (inner p origin cover backdrop)

-- where an item that draws a primitive stands
abbrev pub primitive_spot : Tree → Option Spot
primitive_spot (solid spot colour) = Some spot
primitive_spot (image spot key u v) = Some spot
primitive_spot (border spot widths top right bottom left_ radii) = Some spot
primitive_spot (text spot font colour glyphs) = Some spot
primitive_spot (context push ts) = None
primitive_spot (iframe spot pipeline) = None
primitive_spot (hit_area spot tag) = None

-- ---- colours that are painted

-- an item gives a pixel, if the lists that Iframes name do
abbrev pub ItemGivesPixel : Type 0
ItemGivesPixel =
    (inner : ListPainter) (s : ScenePixel) (l : PlacedList) (t : Tree) (cover : ℕ) (backdrop : Px)
    → IsStore s.store → IsItemOf l t → GivesPixels inner → cover < 2 ^ 8 → IsPixel backdrop
    → IsPixel (paint_tree inner s l t cover backdrop)

-- so do items in order
abbrev pub ItemsGivePixel : Type 0
ItemsGivePixel =
    (inner : ListPainter) (s : ScenePixel) (l : PlacedList) (ts : Trees) (cover : ℕ) (backdrop : Px)
    → IsStore s.store → AreItemsOf l ts → GivesPixels inner → cover < 2 ^ 8 → IsPixel backdrop
    → IsPixel (paint_trees inner s l ts cover backdrop)

-- and so do the pipelines of a scene
abbrev pub PipelinesGivePixels : Type 0
PipelinesGivePixels = (s : ScenePixel) → IsScenePixel s → GivesPixels (paint_pipeline s)

-- over a premultiplied colour, pipelines give a premultiplied one, whatever is stored
abbrev pub PipelinesGivePremultiplied : Type 0
PipelinesGivePremultiplied =
    (s : ScenePixel) (p : ℕ) (origin : Point) (cover : ℕ) (backdrop : Px)
    → IsPremultiplied backdrop
    → IsPremultiplied (paint_pipeline s p origin cover backdrop)

-- ---- what changes nothing

-- a primitive changes nothing outside of its rectangle
abbrev pub PrimitiveStaysInside : Type 0
PrimitiveStaysInside =
    (s : ScenePixel) (p : PrimitiveModel) (cover : ℕ) (backdrop : Px)
    → IsFalse (holds p.rect s.x s.y) → IsPixel backdrop
    → paint_primitive s p cover backdrop ≡ backdrop

-- nor does an item that draws one: a solid, an image, a border or a text
abbrev pub ItemStaysInside : Type 0
ItemStaysInside =
    (inner : ListPainter) (s : ScenePixel) (l : PlacedList) (t : Tree) (spot : Spot) (cover : ℕ) (backdrop : Px)
    → primitive_spot t ≡ Some spot → IsFalse (holds (item_rect l spot) s.x s.y) → IsPixel backdrop
    → paint_tree inner s l t cover backdrop ≡ backdrop

-- nor does an Iframe, whatever its pipeline shows
abbrev pub IframeStaysInside : Type 0
IframeStaysInside =
    (s : ScenePixel) (l : PlacedList) (spot : Spot) (pipeline cover : ℕ) (backdrop : Px)
    → IsScenePixel s → cover < 2 ^ 8 → IsFalse (holds (item_rect l spot) s.x s.y) → IsPixel backdrop
    → paint_tree (paint_pipeline s) s l (iframe spot pipeline) cover backdrop ≡ backdrop

-- no item changes anything under a cover of 0
abbrev pub NothingUnderNoCover : Type 0
NothingUnderNoCover =
    (s : ScenePixel) (l : PlacedList) (t : Tree) (backdrop : Px)
    → IsScenePixel s → IsItemOf l t → IsPixel backdrop
    → paint_tree (paint_pipeline s) s l t 0 backdrop ≡ backdrop

-- nor where the clips of its own chain leave nothing of the cover
abbrev pub NothingWhereClippedAway : Type 0
NothingWhereClippedAway =
    (s : ScenePixel) (l : PlacedList) (t : Tree) (cover : ℕ) (backdrop : Px)
    → IsScenePixel s → IsItemOf l t → under s (chain_clips l (own_chain t)) cover ≡ 0 → IsPixel backdrop
    → paint_tree (paint_pipeline s) s l t cover backdrop ≡ backdrop

-- an Iframe changes nothing where its pipeline has no list
abbrev pub EmptyIframePaintsNothing : Type 0
EmptyIframePaintsNothing =
    (s : ScenePixel) (l : PlacedList) (spot : Spot) (pipeline cover : ℕ) (backdrop : Px)
    → pipeline_list s.pipelines pipeline ≡ None
    → paint_tree (paint_pipeline s) s l (iframe spot pipeline) cover backdrop ≡ backdrop

-- and it has no top items then
abbrev pub EmptyIframeHasNoTops : Type 0
EmptyIframeHasNoTops =
    (pipelines : PipelineMap) (a : Around) (l : PlacedList) (spot : Spot) (pipeline : ℕ)
    → pipeline_list pipelines pipeline ≡ None
    → tree_tops (pipeline_tops pipelines) a l (iframe spot pipeline) ≡ []

-- ---- contexts

-- a plain context gives what its items give
abbrev pub PlainContextPaintsItems : Type 0
PlainContextPaintsItems =
    (inner : ListPainter) (s : ScenePixel) (l : PlacedList) (push : Push) (ts : Trees) (cover : ℕ) (backdrop : Px)
    → IsTrue (is_plain l push)
    → paint_tree inner s l (context push ts) cover backdrop ≡ paint_trees inner s l ts cover backdrop

-- and its top items are theirs
abbrev pub PlainContextHasTheirTops : Type 0
PlainContextHasTheirTops =
    (inner : TopLister) (a : Around) (l : PlacedList) (push : Push) (ts : Trees)
    → IsTrue (is_plain l push)
    → tree_tops inner a l (context push ts) ≡ trees_tops inner a l ts

-- on clear and under a full cover, a group of opacity 255 without a chain gives what its items give there, in every mode
abbrev pub GroupOnClearIsItsItems : Type 0
GroupOnClearIsItsItems =
    (inner : ListPainter) (s : ScenePixel) (l : PlacedList) (push : Push) (ts : Trees)
    → IsStore s.store → AreItemsOf l ts → GivesPixels inner → opacity_of l push ≡ 255 → push.chain ≡ None
    → paint_tree inner s l (context push ts) 255 clear ≡ paint_trees inner s l ts 255 clear

-- ---- levels of pipelines

-- more levels than 64 give the same colours
abbrev pub MoreLevelsPaintTheSame : Type 0
MoreLevelsPaintTheSame =
    (n : ℕ) (s : ScenePixel) (p : ℕ) (origin : Point) (cover : ℕ) (backdrop : Px)
    → AreFit s.pipelines → 64 ≤ n
    → paint_levels n s p origin cover backdrop ≡ paint_pipeline s p origin cover backdrop

-- and the same top items
abbrev pub MoreLevelsHaveTheSameTops : Type 0
MoreLevelsHaveTheSameTops =
    (n : ℕ) (pipelines : PipelineMap) (p : ℕ) (origin : Point) (a : Around)
    → AreFit pipelines → 64 ≤ n
    → tops_in n pipelines p origin a ≡ pipeline_tops pipelines p origin a

-- a pipeline gives what its list's items give, where their Iframes give what their pipelines give
abbrev pub PipelinePaintsItsList : Type 0
PipelinePaintsItsList =
    (s : ScenePixel) (p : ℕ) (origin : Point) (cover : ℕ) (backdrop : Px)
    → AreFit s.pipelines
    → paint_pipeline s p origin cover backdrop ≡ paint_list (paint_pipeline s) s (placed_at s.pipelines p origin) cover backdrop

-- and its top items are those of its list, with those of the pipelines that its Iframes name
abbrev pub PipelineHasItsListsTops : Type 0
PipelineHasItsListsTops =
    (pipelines : PipelineMap) (p : ℕ) (origin : Point) (a : Around)
    → AreFit pipelines
    → pipeline_tops pipelines p origin a ≡ list_tops (pipeline_tops pipelines) (placed_at pipelines p origin) a

-- ---- top items

-- whether an item is drawn by itself: a primitive or a group, and no plain context, Iframe or hit area
abbrev pub is_drawn : PlacedList → Tree → Bool
is_drawn l (solid spot colour) = true
is_drawn l (image spot key u v) = true
is_drawn l (border spot widths top right bottom left_ radii) = true
is_drawn l (text spot font colour glyphs) = true
is_drawn l (context push ts) = not (is_plain l push)
is_drawn l (iframe spot pipeline) = false
is_drawn l (hit_area spot tag) = false

-- a primitive or a group of its list
pub record IsTopItem (t : TopItem) : Type 0 where
  pub drawn : IsTrue (is_drawn t.list t.item)
  pub item : IsItemOf t.list t.item

-- each top item is a primitive or a group of its list
abbrev pub TopsAreDrawn : Type 0
TopsAreDrawn = (s : ScenePixel) → IsScenePixel s → All IsTopItem (top_items s.pipelines)

-- the outermost scroll frame of a node has the scroll number that makes the node's home
abbrev pub FrameHasRootScroll : Type 0
FrameHasRootScroll = (nodes : List Node) (node : ℕ) → scroll_at nodes (root_frame_of nodes node) ≡ root_scroll_of nodes node

-- an opaque solid over a pixel, of which clips leave all, hides the top items before it
abbrev pub OpaqueSolidHides : Type 0
OpaqueSolidHides =
    (s : ScenePixel) (before : List TopItem) (t : TopItem) (spot : Spot) (colour backdrop : Px)
    → t.item ≡ solid spot colour → IsPixel colour → colour.a ≡ 255
    → IsTrue (holds (item_rect t.list spot) s.x s.y)
    → under s (t.around.clips ++ chain_clips t.list spot.chain) 255 ≡ 255
    → paint_tops s (before ++ t ∷ []) backdrop ≡ colour

-- the top items painted in order, without slices, give what the root pipeline gives
abbrev pub TopsPaintTheScene : Type 0
TopsPaintTheScene =
    (s : ScenePixel) (backdrop : Px)
    → AreFit s.pipelines
    → paint_tops s (top_items s.pipelines) backdrop ≡ paint_pipeline s 0 zero_point 255 backdrop

-- ---- the picture

-- over a pixel, the picture is a pixel
abbrev pub PictureIsPixel : Type 0
PictureIsPixel =
    (s : ScenePixel) (behind : Px)
    → IsScenePixel s → IsPixel behind
    → IsPixel (picture_over s behind)

-- over a premultiplied colour, the picture is premultiplied, whatever is stored
abbrev pub PictureIsPremultiplied : Type 0
PictureIsPremultiplied = (s : ScenePixel) (behind : Px) → IsPremultiplied behind → IsPremultiplied (picture_over s behind)

-- where all top items have one home, the picture is what the root pipeline gives on clear, laid over the colour behind
abbrev pub OneHomeIsOneGroup : Type 0
OneHomeIsOneGroup =
    (s : ScenePixel) (behind : Px) (home : Home)
    → AreFit s.pipelines → IsPixel behind → All (λ t. home_of t ≡ home) (top_items s.pipelines)
    → picture_over s behind ≡ blended Normal (paint_pipeline s 0 zero_point 255 clear) behind
