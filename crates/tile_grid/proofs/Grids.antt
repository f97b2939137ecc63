-- A grid over a rectangle has the tiles that the rectangle meets.
use Rattle.std.proofs.Common.{◌≡◌, ℕ, ◌<◌, ◌*◌, ◌+◌, ◌↔◌, Bool, true, false, [], IsTrue, Contains, refl, sym, ap, subst, ◌∙◌, true≢false, arith}
use Rattle.std.specs.Prelude.{ℤ, pos, ◌+ℤ◌, ◌*ℤ◌, ◌<ℤ◌}
use Rattle.std.proofs.lemmas.Int.{ints}
use Rattle.wr_geom.specs.Bounds.{Bounds, has_points}
use Rattle.wr_geom.proofs.Points.{HasSides, has_sides}
use Rattle.tile_grid.specs.declared.tile.GridTile.{GridTile}
use Rattle.tile_grid.specs.declared.tile.TileSides.{TileSides}
use Rattle.tile_grid.specs.Tiles.{AreTileSides, IsTileSide, meets, tile, tile_rect}
use Rattle.tile_grid.specs.Grids.{GridModel, count_of, tile_at, tiles_of, grid_over, span_over, no_tiles}
use Rattle.tile_grid.specs.Parts.{HasCoordinates}
use Rattle.tile_grid.specs.Laws.{TilesThatMeetAreListed}
use Rattle.tile_grid.proofs.Axes.{span_has, has_index}
use Rattle.tile_grid.proofs.Lists.{tiles_are_counted, tiles_by_index, column_below, row_below, index_below, at_index}
use Rattle.tile_grid.proofs.Meetings.{meets_to, to_meets, meets_none}

-- the grid over a rectangle with points
abbrev pub points_grid : TileSides → Bounds → GridModel
points_grid s b = record { sides = s; columns = span_over s.width b.x0 b.x1; rows = span_over s.height b.y0 b.y1 }

pub over_points : (s : TileSides) (b : Bounds) → has_points b ≡ true → points_grid s b ≡ grid_over s b
unfolding grid_over
over_points s b h = rw h refl

pub over_none : (s : TileSides) (b : Bounds) → has_points b ≡ false → record { sides = s; columns = no_tiles; rows = no_tiles } ≡ grid_over s b
unfolding grid_over
over_none s b h = rw h refl

wider : (x : ℤ) (n : ℕ) → IsTileSide n → x <ℤ (x +ℤ pos n)
wider x n h = omega (arith, ints, h.some)

pub tile_sides : (s : TileSides) (col row : ℤ) → AreTileSides s → HasSides (tile_rect s col row)
tile_sides s col row h = record { across = wider (col *ℤ pos s.width) s.width h.width; down = wider (row *ℤ pos s.height) s.height h.height }

pub some_side : (n : ℕ) → IsTileSide n → 0 < n
some_side n h = omega (arith, h.some)

-- a tile meets a rectangle with points where it has coordinates of both its ranges
pub meets_by_axes : (s : TileSides) (b : Bounds) (col row : ℤ) → AreTileSides s → HasSides b → HasCoordinates s.width b.x0 b.x1 col → HasCoordinates s.height b.y0 b.y1 row → meets (tile_rect s col row) b ≡ true
meets_by_axes s b col row h t x y = to_meets (tile_rect s col row) b (tile_sides s col row h) t (record { left = x.ends; right = x.begins; top = y.ends; bottom = y.begins })

pub record AxesMeet (s : TileSides) (b : Bounds) (col row : ℤ) : Type 0 where
  pub across : HasCoordinates s.width b.x0 b.x1 col
  pub down : HasCoordinates s.height b.y0 b.y1 row

pub axes_meet : (s : TileSides) (b : Bounds) (col row : ℤ) → meets (tile_rect s col row) b ≡ true → AxesMeet s b col row
axes_meet s b col row h =
    let o = meets_to (tile_rect s col row) b h in
    record { across = record { begins = o.right; ends = o.left }; down = record { begins = o.bottom; ends = o.top } }

-- the tile with an index meets it
index_meets : (s : TileSides) (b : Bounds) (k : ℕ) → AreTileSides s → HasSides b → k < count_of (points_grid s b) → meets (tile_at (points_grid s b) k).rect b ≡ true
index_meets s b k h t i =
    let g = points_grid s b in
    meets_by_axes s b (tile_at g k).col (tile_at g k).row h t
    (span_has s.width b.x0 b.x1 _ (some_side s.width h.width) t.across (column_below g k i))
    (span_has s.height b.y0 b.y1 _ (some_side s.height h.height) t.down (row_below g k i))

tile_of_place : (s : TileSides) (c d r q : ℤ) → c ≡ d → r ≡ q → tile s c r ≡ tile s d q
tile_of_place s c d r q e f = ap (λ (z : ℤ). tile s z r) e ∙ ap (λ (z : ℤ). tile s d z) f

-- a tile that meets it has an index
listed : (s : TileSides) (b : Bounds) (col row : ℤ) → AreTileSides s → meets (tile_rect s col row) b ≡ true → Contains (tiles_of (points_grid s b)) (tile s col row)
listed s b col row h m =
    let g = points_grid s b in
    let a = axes_meet s b col row m in
    let c = has_index s.width b.x0 b.x1 col (some_side s.width h.width) a.across in
    let r = has_index s.height b.y0 b.y1 row (some_side s.height h.height) a.down in
    let i = index_below g.columns.count g.rows.count c.index r.index c.inside r.inside in (
      r.index * g.columns.count + c.index,
      subst (λ (n : ℕ). r.index * g.columns.count + c.index < n) (sym (tiles_are_counted g)) i,
      tiles_by_index g (r.index * g.columns.count + c.index) (tile s col row) i ∙ at_index g c.index r.index c.inside ∙ tile_of_place s _ col _ row c.place r.place,
    )

unlisted : (s : TileSides) (b : Bounds) (col row : ℤ) → AreTileSides s → HasSides b → Contains (tiles_of (points_grid s b)) (tile s col row) → meets (tile_rect s col row) b ≡ true
unlisted s b col row h t (k, i, e) =
    let g = points_grid s b in
    let j = subst (λ (n : ℕ). k < n) (tiles_are_counted g) i in
    subst (λ (u : GridTile). meets u.rect b ≡ true) (sym (tiles_by_index g k (tile s col row) j) ∙ e) (index_meets s b k h t j)

none_listed : (t : GridTile) → Contains [] t → ⊥
none_listed t (k, i, e) = omega (arith, i)

pub tiles_that_meet_are_listed : TilesThatMeetAreListed
tiles_that_meet_are_listed s b col row h = by_points (has_points b) refl
  where
    by_points : (t : Bool) → has_points b ≡ t → Contains (tiles_of (grid_over s b)) (tile s col row) ↔ IsTrue (meets (tile_rect s col row) b)
    by_points true e = subst (λ (g : GridModel). Contains (tiles_of g) (tile s col row) ↔ IsTrue (meets (tile_rect s col row) b)) (over_points s b e)
        (unlisted s b col row h (has_sides b e), listed s b col row h)
    by_points false e = subst (λ (g : GridModel). Contains (tiles_of g) (tile s col row) ↔ IsTrue (meets (tile_rect s col row) b)) (over_none s b e)
        ((λ k. absurd (none_listed (tile s col row) k)), (λ m. absurd (true≢false (sym m ∙ meets_none (tile_rect s col row) b e))))

-- the edges of a tile's rectangle, one from another
pub rect_is : (s : TileSides) (col row x0 y0 x1 y1 : ℤ) → x0 ≡ (col *ℤ pos s.width) → y0 ≡ (row *ℤ pos s.height) → x1 ≡ (x0 +ℤ pos s.width) → y1 ≡ (y0 +ℤ pos s.height)
    → record { x0 = x0; y0 = y0; x1 = x1; y1 = y1 } ≡ tile_rect s col row
rect_is s col row x0 y0 x1 y1 a b c d =
    let e = c ∙ ap (λ (z : ℤ). z +ℤ pos s.width) a in
    let f = d ∙ ap (λ (z : ℤ). z +ℤ pos s.height) b in
    λ i. record { x0 = a i; y0 = b i; x1 = e i; y1 = f i }
