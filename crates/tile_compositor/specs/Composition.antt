-- What placed slices of kept tiles show.
use Rattle.std.specs.Prelude.{◌≡◌, ℕ, Bool, ◌&&◌, ℤ, pos, ◌+ℤ◌, ◌-ℤ◌, ◌≤ℤ◌, ◌<ℤ◌, List, fold, IsTrue, IfSome, if◌then◌else◌}
use Rattle.std.specs.Option.{option_map_or}
use Rattle.wr_geom.specs.Bounds.{Bounds, Covers, holds}
use Rattle.wr_geom.specs.declared.keys.SliceKey.{SliceKey}
use Rattle.wr_geom.specs.declared.keys.TileKey.{TileKey}
use Rattle.wr_geom.specs.declared.point.Point.{Point}
use Rattle.blend_rules.specs.Colour.{IsPixel, blended, clear}
use Rattle.blend_rules.specs.declared.colour.Px.{Px}
use Rattle.blend_rules.specs.declared.mode.Mode.TheVariants.{Normal}
use Rattle.span_kernels.specs.PlanesModel.{PlanesModel, pixel_at}
use Rattle.tile_grid.specs.Tiles.{tile_rect}
use Rattle.tile_grid.specs.Grids.{IsWithinReach, tile_of}
use Rattle.tile_grid.specs.declared.tile.TileSides.{TileSides}
use Rattle.tile_store.specs.declared.tile.Tile.{Tile}
use Rattle.tile_store.specs.Tiles.{TileList, tile_at, column_of, row_of}
use Rattle.tile_compositor.specs.declared.part.Part.{Part}
use Rattle.tile_compositor.specs.declared.placed.Placed.{Placed}
use Rattle.tile_compositor.specs.declared.row.Span.{Span}
use Rattle.tile_compositor.specs.Laid.{frame_rect}

-- a slice that a frame can show: its origin is in reach, and what it shows lies in the frame
pub record IsPlacedIn (frame : PlanesModel) (p : Placed) : Type 0 where
  pub origin : IsWithinReach p.origin
  pub shown : Covers (frame_rect frame) p.shown

-- whether a pixel of a frame lies in a rectangle of a slice's coordinates, and where the slice shows
abbrev pub shows_in : Placed → Bounds → ℕ → ℕ → Bool
shows_in p rect x y = holds rect (pos x -ℤ p.origin.x) (pos y -ℤ p.origin.y) && holds p.shown (pos x) (pos y)

-- the key of a slice's tile that has a point of the slice's coordinates
abbrev pub key_at : TileSides → SliceKey → ℤ → ℤ → TileKey
key_at sides slice x y = record { slice = slice; col = tile_of sides.width x; row = tile_of sides.height y }

module _ {R : Type 0} where
  -- the colour of a tile at a point of its slice's coordinates
  abbrev pub tile_colour : Tile R → ℤ → ℤ → Px
  tile_colour tile x y = pixel_at tile.planes (column_of tile.rect x) (row_of tile.rect y)

  -- a tile's colour over what a frame has at a pixel, for a slice with this origin
  abbrev pub tile_over : Tile R → Point → PlanesModel → ℕ → ℕ → Px
  tile_over tile origin frame x y = blended Normal (tile_colour tile (pos x -ℤ origin.x) (pos y -ℤ origin.y)) (pixel_at frame x y)

  -- each colour of a tile is premultiplied and of four bytes
  abbrev pub HasAllPixels : Tile R → Type 0
  HasAllPixels tile = (x y : ℤ) → IsTrue (holds tile.rect x y) → IsPixel (tile_colour tile x y)

  -- the colour of a slice's tiles at a point of its coordinates: clear where no tile is kept
  abbrev pub tiles_colour : TileSides → TileList R → SliceKey → ℤ → ℤ → Px
  tiles_colour sides tiles slice x y = option_map_or (λ tile. tile_colour tile x y) (tile_at (key_at sides slice x y) tiles) clear

  -- the colour of a slice at a pixel of a frame: clear outside of what it shows
  abbrev pub placed_colour : TileSides → TileList R → Placed → ℤ → ℤ → Px
  placed_colour sides tiles p x y = if holds p.shown x y then tiles_colour sides tiles p.key (x -ℤ p.origin.x) (y -ℤ p.origin.y) else clear

  -- a slice's colour over what a frame has at a pixel
  abbrev pub placed_over : TileSides → TileList R → Placed → PlanesModel → ℕ → ℕ → Px
  placed_over sides tiles p frame x y = blended Normal (placed_colour sides tiles p (pos x) (pos y)) (pixel_at frame x y)

  -- slices over a colour, the backmost first
  abbrev pub composed : TileSides → TileList R → List Placed → ℤ → ℤ → Px → Px
  composed sides tiles placed x y below = fold (λ b p. blended Normal (placed_colour sides tiles p x y) b) below placed

  -- a kept tile that can be shown: its rectangle is that of its key, and its colours are premultiplied
  pub record CanBeShown (sides : TileSides) (key : TileKey) (tile : Tile R) : Type 0 where
    pub rect : tile.rect ≡ tile_rect sides key.col key.row
    pub pixels : HasAllPixels tile

  -- each kept tile can be shown
  abbrev pub CanAllBeShown : TileSides → TileList R → Type 0
  CanAllBeShown sides tiles = (key : TileKey) → IfSome (tile_at key tiles) (λ tile. CanBeShown sides key tile)

-- a span of a frame lies in a rectangle that is moved by an origin
pub record IsSpanOver (rect : Bounds) (origin : Point) (span : Span) : Type 0 where
  pub left : (rect.x0 +ℤ origin.x) ≤ℤ pos span.from
  pub right : pos span.to ≤ℤ (rect.x1 +ℤ origin.x)
  pub top : (rect.y0 +ℤ origin.y) ≤ℤ pos span.y
  pub bottom : pos span.y <ℤ (rect.y1 +ℤ origin.y)

-- a part of a frame lies in a rectangle that is moved by an origin
pub record IsPartOver (rect : Bounds) (origin : Point) (part : Part) : Type 0 where
  pub left : (rect.x0 +ℤ origin.x) ≤ℤ pos part.left
  pub right : pos part.right ≤ℤ (rect.x1 +ℤ origin.x)
  pub top : (rect.y0 +ℤ origin.y) ≤ℤ pos part.top
  pub bottom : pos part.bottom ≤ℤ (rect.y1 +ℤ origin.y)
