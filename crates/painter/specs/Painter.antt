-- The painter: what the items of a scene give at one pixel, back to front.
use Rattle.std.specs.Prelude.{ℕ, zero, suc, ℤ, ◌+ℤ◌, List, map, Option, Some, None, if◌then◌else◌, refl}
use Rattle.std.specs.Option.{option_map}
use Rattle.std.specs.Coded.{Coded, code_by, coded×, coded_ℤ}
use Rattle.wr_geom.specs.declared.point.Point.{Point}
use Rattle.blend_rules.specs.declared.colour.Px.{Px}
use Rattle.blend_rules.specs.declared.mode.Mode.TheVariants.{Normal}
use Rattle.blend_rules.specs.Colour.{clear, scaled, blended}
use Rattle.clip_masks.specs.Coverage.{chain_coverage}
use Rattle.clip_masks.specs.declared.clip.Clip.{Clip}
use Rattle.display_list.specs.declared.item.Spot.{Spot}
use Rattle.display_list.specs.declared.item.GlyphAt.{GlyphAt}
use Rattle.display_list.specs.declared.token.Push.{Push}
use Rattle.display_list.specs.Trees.{Tree, solid, image, border, text, context, iframe, hit_area, Trees, none, more, told}
use Rattle.image_store.specs.StoreModel.{StoreModel, image_at, glyph_at}
use Rattle.image_store.specs.StoreCode.{store_code}
use Rattle.pipelines.specs.Table.{PipelineMap}
use Rattle.pipelines.specs.contracts.table.Pipelines as pipeline_maps
use Rattle.primitives.specs.declared.kind.GlyphUse.{GlyphUse}
use Rattle.primitives.specs.declared.kind.Kind.{Kind}
use Rattle.primitives.specs.declared.kind.Kind.TheVariants as kind
use Rattle.primitives.specs.PrimitiveModel.{PrimitiveModel}
use Rattle.primitives.specs.Colours.{primitive_colour}
use Rattle.painter.specs.PlacedList.{PlacedList, placed_at, node_point, item_rect, chain_clips, first_corner, iframe_clips, opacity_of, is_plain}

-- what is drawn, the pipelines with the images and masks, and the pixel at which
pub record ScenePixel : Type 0 where
  pub pipelines : PipelineMap
  pub store : StoreModel
  pub x : ℤ
  pub y : ℤ

abbrev pub pixel_code : Coded ScenePixel
pixel_code =
    code_by (PipelineMap × (StoreModel × (ℤ × ℤ)))
    (coded× pipeline_maps.the_row.coded (coded× store_code (coded× coded_ℤ coded_ℤ)))
    (λ s. (s.pipelines, (s.store, (s.x, s.y))))
    (λ p. record { pipelines = p.0; store = p.1.0; x = p.1.1.0; y = p.1.1.1 }) (λ _. refl)

-- ---- primitives

-- an image, with its generation where one is stored
abbrev pub image_kind : StoreModel → PlacedList → ℕ → ℕ → ℕ → Kind
image_kind store l key u v = kind.Image l.pipeline key (option_map (λ i. i.generation) (image_at store l.pipeline key)) u v

-- a glyph where its node puts it, with its mask's generation where one is stored
abbrev pub glyph_use : StoreModel → ℕ → ℕ → Point → GlyphAt → GlyphUse
glyph_use store pipeline font at g = record {
  glyph = g.glyph;
  x = at.x +ℤ g.x;
  y = at.y +ℤ g.y;
  generation = option_map (λ m. m.generation) (glyph_at store pipeline font g.glyph);
}

-- a text, whose glyphs are relative to the item's node
abbrev pub text_kind : StoreModel → PlacedList → ℕ → ℕ → Px → List GlyphAt → Kind
text_kind store l node font colour glyphs = kind.Text l.pipeline font colour (map (glyph_use store l.pipeline font (node_point l node)) glyphs)

-- an item that is drawn at once
abbrev pub primitive_of : PlacedList → Spot → Kind → PrimitiveModel
primitive_of l spot shown = record { kind = shown; rect = item_rect l spot; clips = chain_clips l spot.chain }

-- ---- painting, under a cover of 255 and over a backdrop

-- what clips leave of a cover
abbrev pub under : ScenePixel → List Clip → ℕ → ℕ
under s clips cover = chain_coverage clips cover s.x s.y

abbrev pub paint_primitive : ScenePixel → PrimitiveModel → ℕ → Px → Px
paint_primitive s p cover backdrop = blended Normal (scaled (primitive_colour s.store p s.x s.y) (under s p.clips cover)) backdrop

-- a group, whose items gave a colour
abbrev pub paint_group : ScenePixel → PlacedList → Push → Px → ℕ → Px → Px
paint_group s l push group cover backdrop = blended push.mode (scaled (scaled group (opacity_of l push)) (under s (chain_clips l push.chain) cover)) backdrop

-- what paints the list of a pipeline whose root is at a point
abbrev pub ListPainter : Type 0
ListPainter = ℕ → Point → ℕ → Px → Px

abbrev mutual
  -- one item; `inner` paints the lists that Iframes name
  pub paint_tree : ListPainter → ScenePixel → PlacedList → Tree → ℕ → Px → Px
  paint_tree inner s l (solid spot colour) cover backdrop = paint_primitive s (primitive_of l spot (kind.Solid colour)) cover backdrop
  paint_tree inner s l (image spot key u v) cover backdrop = paint_primitive s (primitive_of l spot (image_kind s.store l key u v)) cover backdrop
  paint_tree inner s l (border spot widths top right bottom left_ radii) cover backdrop = paint_primitive s (primitive_of l spot (kind.Border widths top right bottom left_ radii)) cover backdrop
  paint_tree inner s l (text spot font colour glyphs) cover backdrop = paint_primitive s (primitive_of l spot (text_kind s.store l spot.node font colour glyphs)) cover backdrop
  paint_tree inner s l (context push ts) cover backdrop =
      if is_plain l push then paint_trees inner s l ts cover backdrop
      else paint_group s l push (paint_trees inner s l ts 255 clear) cover backdrop
  paint_tree inner s l (iframe spot pipeline) cover backdrop = inner pipeline (first_corner (item_rect l spot)) (under s (iframe_clips l spot) cover) backdrop
  paint_tree inner s l (hit_area spot tag) cover backdrop = backdrop

  -- items in order, back to front
  pub paint_trees : ListPainter → ScenePixel → PlacedList → Trees → ℕ → Px → Px
  paint_trees inner s l none cover backdrop = backdrop
  paint_trees inner s l (more t ts) cover backdrop = paint_trees inner s l ts cover (paint_tree inner s l t cover backdrop)

-- the items of a list, where there is one
abbrev pub paint_list : ListPainter → ScenePixel → Option PlacedList → ℕ → Px → Px
paint_list inner s None cover backdrop = backdrop
paint_list inner s (Some l) cover backdrop = paint_trees inner s l (told l.list.items) cover backdrop

-- the list of a pipeline, through at most so many levels of pipelines
unfoldable pub paint_levels : ℕ → ScenePixel → ListPainter
paint_levels zero s p origin cover backdrop = backdrop
paint_levels (suc n) s p origin cover backdrop = paint_list (paint_levels n s) s (placed_at s.pipelines p origin) cover backdrop

-- the list of a pipeline. An Iframe names a greater pipeline, and there are 64, so that no more levels are needed.
abbrev pub paint_pipeline : ScenePixel → ListPainter
paint_pipeline s = paint_levels 64 s
