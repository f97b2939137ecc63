-- What holds of tiles and grids, as laws on the definitions.
use Rattle.std.specs.Prelude.{◌≡◌, ◌↔◌, ℕ, ◌<◌, IsTrue, ℤ, Contains, All, AllPairs, get_or, length}
use Rattle.wr_geom.specs.Bounds.{Bounds, holds}
use Rattle.wr_geom.specs.declared.point.Point.{Point}
use Rattle.tile_grid.specs.declared.tile.GridTile.{GridTile}
use Rattle.tile_grid.specs.declared.tile.TileSides.{TileSides}
use Rattle.tile_grid.specs.Tiles.{AreTileSides, meets, tile, tile_rect}
use Rattle.tile_grid.specs.Grids.{GridModel, HasTileRoom, IsBefore, IsGrid, IsViewPart, IsWithinReach, count_of, tile_at, tiles_of, grid_over, in_slice}

-- two rectangles meet exactly where a point lies in both
abbrev pub MeetingIsSharingAPoint : Type 0
MeetingIsSharingAPoint = (a b : Bounds) → IsTrue (meets a b) ↔ ((x : ℤ) × (y : ℤ) × IsTrue (holds a x y) × IsTrue (holds b x y))

-- their order is free
abbrev pub MeetingCommutes : Type 0
MeetingCommutes = (a b : Bounds) → meets a b ≡ meets b a

-- a grid over a rectangle has exactly the tiles that the rectangle meets
abbrev pub TilesThatMeetAreListed : Type 0
TilesThatMeetAreListed = (s : TileSides) (b : Bounds) (col row : ℤ) → AreTileSides s
    → Contains (tiles_of (grid_over s b)) (tile s col row) ↔ IsTrue (meets (tile_rect s col row) b)

-- and nothing else
abbrev pub ListedAreTiles : Type 0
ListedAreTiles = (g : GridModel) → All (λ t. t ≡ tile g.sides t.col t.row) (tiles_of g)

-- tiles come by row and then by column, none twice
abbrev pub TilesComeByRow : Type 0
TilesComeByRow = (g : GridModel) → AllPairs IsBefore (tiles_of g)

-- each stands at its index
abbrev pub TilesByIndex : Type 0
TilesByIndex = (g : GridModel) (i : ℕ) (d : GridTile) → i < count_of g → get_or (tiles_of g) i d ≡ tile_at g i

abbrev pub TilesAreCounted : Type 0
TilesAreCounted = (g : GridModel) → length (tiles_of g) ≡ count_of g

-- each tile that a rectangle with room meets is in range
abbrev pub TilesAreInRange : Type 0
TilesAreInRange = (s : TileSides) (b : Bounds) → AreTileSides s → HasTileRoom b → IsGrid (grid_over s b)

-- a slice with an origin in reach has room, wherever it shows in the view
abbrev pub ViewsHaveTileRoom : Type 0
ViewsHaveTileRoom = (b : Bounds) (origin : Point) → IsViewPart b → IsWithinReach origin → HasTileRoom (in_slice b origin)
