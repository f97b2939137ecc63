-- Grids: the tiles of some columns and rows, row by row.
use Rattle.std.specs.Prelude.{◌≡◌, ℕ, zero, suc, ◌*◌, ◌/◌, ◌%◌, ◌^◌, ◌<◌, ◌⊎◌, List, [], ◌∷◌, ℤ, pos, neg_ℤ, ◌+ℤ◌, ◌-ℤ◌, ◌≤ℤ◌, ◌<ℤ◌, unsigned_abs, if◌then◌else◌}
use Rattle.std.specs.Int.{int_div_euclid}
use Rattle.wr_geom.specs.Bounds.{Bounds, IsRect, has_points, shifted}
use Rattle.wr_geom.specs.declared.point.Point.{Point}
use Rattle.tile_grid.specs.declared.axis.TileSpan.{TileSpan}
use Rattle.tile_grid.specs.declared.tile.GridTile.{GridTile}
use Rattle.tile_grid.specs.declared.tile.TileSides.{TileSides}
use Rattle.tile_grid.specs.Tiles.{AreTileSides, tile}

-- ---- one axis

-- the tile that has the coordinate z: rounded towards minus infinity
abbrev pub tile_of : ℕ → ℤ → ℤ
tile_of side z = int_div_euclid z (pos side)

-- the tiles from that of a to that of the last coordinate before b
abbrev pub span_over : ℕ → ℤ → ℤ → TileSpan
span_over side a b = record { first = tile_of side a; count = unsigned_abs (tile_of side (b -ℤ pos 1) +ℤ pos 1 -ℤ tile_of side a) }

-- a span without a tile
abbrev pub no_tiles : TileSpan
no_tiles = record { first = pos 0; count = 0 }

-- each of its tiles has a number within 2^29 of 0
pub record IsNearSpan (s : TileSpan) : Type 0 where
  pub low : neg_ℤ (pos (2 ^ 29)) ≤ℤ s.first
  pub high : (s.first +ℤ pos s.count) ≤ℤ pos (2 ^ 29)

-- ---- both axes

pub record GridModel : Type 0 where
  pub sides : TileSides
  pub columns : TileSpan
  pub rows : TileSpan

-- the tile in its column c and its row r, each counted from 0
abbrev pub tile_in : GridModel → ℕ → ℕ → GridTile
tile_in g c r = tile g.sides (g.columns.first +ℤ pos c) (g.rows.first +ℤ pos r)

-- the tile with the index i: whole rows of tiles come before it, and then those before it in its row
abbrev pub tile_at : GridModel → ℕ → GridTile
tile_at g i = tile_in g (i % g.columns.count) (i / g.columns.count)

abbrev pub count_of : GridModel → ℕ
count_of g = g.rows.count * g.columns.count

-- n tiles, from the index i on
abbrev pub tiles_from : GridModel → ℕ → ℕ → List GridTile
tiles_from g i zero = []
tiles_from g i (suc n) = tile_at g i ∷ tiles_from g (suc i) n

-- all its tiles, row by row
abbrev pub tiles_of : GridModel → List GridTile
tiles_of g = tiles_from g 0 (count_of g)

-- by row, and then by column
abbrev pub IsBefore : GridTile → GridTile → Type 0
IsBefore a b = (a.row <ℤ b.row) ⊎ ((a.row ≡ b.row) × (a.col <ℤ b.col))

-- what holds of every grid: tiles have sides of their range, and each is in range
pub record IsGrid (g : GridModel) : Type 0 where
  pub sides : AreTileSides g.sides
  pub columns : IsNearSpan g.columns
  pub rows : IsNearSpan g.rows
  pub rects : (c r : ℕ) → c < g.columns.count → r < g.rows.count → IsRect (tile_in g c r).rect

-- ---- grids over rectangles

-- the tiles that a rectangle meets
unfoldable pub grid_over : TileSides → Bounds → GridModel
grid_over s b =
    if has_points b then record { sides = s; columns = span_over s.width b.x0 b.x1; rows = span_over s.height b.y0 b.y1 }
    else record { sides = s; columns = no_tiles; rows = no_tiles }

-- the way back from a point to (0, 0)
abbrev pub way_back : Point → Point
way_back p = record { x = neg_ℤ p.x; y = neg_ℤ p.y }

-- a part of the view in the coordinates of a slice with this origin
abbrev pub in_slice : Bounds → Point → Bounds
in_slice b origin = shifted b (way_back origin)

-- it lies in a view of at most 4,096 pixels a side
pub record IsViewPart (b : Bounds) : Type 0 where
  pub left : pos 0 ≤ℤ b.x0
  pub top : pos 0 ≤ℤ b.y0
  pub right : b.x1 ≤ℤ pos 4096
  pub bottom : b.y1 ≤ℤ pos 4096

-- both coordinates lie within 2^27 pixels of 0
pub record IsWithinReach (p : Point) : Type 0 where
  pub left : neg_ℤ (pos (2 ^ 27)) ≤ℤ p.x
  pub top : neg_ℤ (pos (2 ^ 27)) ≤ℤ p.y
  pub right : p.x ≤ℤ pos (2 ^ 27)
  pub bottom : p.y ≤ℤ pos (2 ^ 27)

-- all four edges lie within 2^28 pixels of 0, so that a tile that it meets is in range
pub record HasTileRoom (b : Bounds) : Type 0 where
  pub left : neg_ℤ (pos (2 ^ 28)) ≤ℤ b.x0
  pub top : neg_ℤ (pos (2 ^ 28)) ≤ℤ b.y0
  pub right : b.x1 ≤ℤ pos (2 ^ 28)
  pub bottom : b.y1 ≤ℤ pos (2 ^ 28)
