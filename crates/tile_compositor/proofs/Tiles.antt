-- The tile that has a point, and its index in a grid.
use Rattle.std.proofs.Common.{Bool, true, false, refl, ◌≡◌, ℕ, ◌<◌, ◌+◌, ◌*◌, ◌/◌, ◌%◌, ℤ, pos, ◌+ℤ◌, ◌-ℤ◌, ◌*ℤ◌, ◌≤ℤ◌, ◌<ℤ◌, IsTrue, subst, sym, ap, ap₂, ◌∙◌, arith}
use Rattle.std.proofs.lemmas.Int.{ints}
use Rattle.std.proofs.lemmas.Nat.{div-add-mod'}
use Rattle.wr_geom.specs.Bounds.{Bounds, holds, has_points}
use Rattle.wr_geom.proofs.Points.{IsInside, inside, holds_it}
use Rattle.tile_grid.specs.declared.tile.GridTile.{GridTile}
use Rattle.tile_grid.specs.declared.tile.TileSides.{TileSides}
use Rattle.tile_grid.specs.Tiles.{AreTileSides, tile_rect}
use Rattle.tile_grid.specs.Grids.{GridModel, count_of, tile_at, tile_of, grid_over}
use Rattle.tile_grid.proofs.Axes.{has_index}
use Rattle.tile_grid.proofs.Floors.{tiles_meet}
use Rattle.tile_grid.proofs.Grids.{points_grid, over_points, over_none, some_side}
use Rattle.tile_grid.proofs.Lists.{index_below, at_index}

after_before : (z : ℤ) → ((z +ℤ pos 1) -ℤ pos 1) ≡ z
after_before z = omega (arith, ints)

before_next : (a z : ℤ) → a ≤ℤ z → a <ℤ (z +ℤ pos 1)
before_next a z h = omega (arith, ints, h)

not_after : (a z : ℤ) → a <ℤ (z +ℤ pos 1) → a ≤ℤ z
not_after a z h = omega (arith, ints, h)

itself : (z : ℤ) → z ≤ℤ z
itself z = omega (arith, ints)

both_ways : (a b : ℤ) → a ≤ℤ b → b ≤ℤ a → a ≡ b
both_ways a b h k = omega (arith, ints, h, k)

le_lt : (a b c : ℤ) → a ≤ℤ b → b <ℤ c → a <ℤ c
le_lt a b c h k = omega (arith, ints, h, k)

same_after : (f : ℤ) (m n : ℕ) → (f +ℤ pos m) ≡ (f +ℤ pos n) → m ≡ n
same_after f m n h = omega (arith, ints, h)

-- ---- on one axis

-- the tile of a coordinate has it
pub record HasCoordinate (side : ℕ) (t z : ℤ) : Type 0 where
  pub low : (t *ℤ pos side) ≤ℤ z
  pub high : z <ℤ (t *ℤ pos side +ℤ pos side)

pub axis_has : (side : ℕ) (z : ℤ) → 0 < side → HasCoordinate side (tile_of side z) z
axis_has side z h =
    let t = tile_of side z in
    let last : t ≤ℤ tile_of side ((z +ℤ pos 1) -ℤ pos 1) = subst (λ (y : ℤ). t ≤ℤ tile_of side y) (sym (after_before z)) (itself t) in
    let m = (tiles_meet side z (z +ℤ pos 1) t h).0 (itself t, last) in
    record { low = not_after (t *ℤ pos side) z m.1; high = m.0 }

-- and no other tile has it
pub on_axis : (side : ℕ) (t z : ℤ) → 0 < side → HasCoordinate side t z → t ≡ tile_of side z
on_axis side t z h has =
    let m = (tiles_meet side z (z +ℤ pos 1) t h).1 (has.high, before_next (t *ℤ pos side) z has.low) in
    both_ways t (tile_of side z) (subst (λ (y : ℤ). t ≤ℤ tile_of side y) (after_before z) m.1) m.0

-- ---- on both

-- the column and the row of the tile that has a point
pub record IsTileOf (s : TileSides) (col row x y : ℤ) : Type 0 where
  pub across : col ≡ tile_of s.width x
  pub down : row ≡ tile_of s.height y

pub holds_tile : (s : TileSides) (col row x y : ℤ) → AreTileSides s → IsTrue (holds (tile_rect s col row) x y) → IsTileOf s col row x y
holds_tile s col row x y are h =
    let i = inside (tile_rect s col row) x y h in
    record {
      across = on_axis s.width col x (some_side s.width are.width) (record { low = i.left; high = i.right });
      down = on_axis s.height row y (some_side s.height are.height) (record { low = i.top; high = i.bottom });
    }

pub tile_holds : (s : TileSides) (x y : ℤ) → AreTileSides s → IsTrue (holds (tile_rect s (tile_of s.width x) (tile_of s.height y)) x y)
tile_holds s x y are =
    let a = axis_has s.width x (some_side s.width are.width) in
    let d = axis_has s.height y (some_side s.height are.height) in
    holds_it (tile_rect s (tile_of s.width x) (tile_of s.height y)) x y (record { left = a.low; right = a.high; top = d.low; bottom = d.high })

-- ---- in a grid

-- two indices of one column and one row are one
same_index : (i j n : ℕ) → i % n ≡ j % n → i / n ≡ j / n → i ≡ j
same_index i j n e f = sym (div-add-mod' i n) ∙ ap₂ (λ (q r : ℕ). q * n + r) f e ∙ div-add-mod' j n

-- a point lies in one tile of a grid alone
pub only_index : (g : GridModel) (i j : ℕ) (x y : ℤ) → AreTileSides g.sides → IsTrue (holds (tile_at g i).rect x y) → IsTrue (holds (tile_at g j).rect x y) → i ≡ j
only_index g i j x y are h k =
    let a = holds_tile g.sides (tile_at g i).col (tile_at g i).row x y are h in
    let b = holds_tile g.sides (tile_at g j).col (tile_at g j).row x y are k in
    same_index i j g.columns.count
    (same_after g.columns.first (i % g.columns.count) (j % g.columns.count) (a.across ∙ sym b.across))
    (same_after g.rows.first (i / g.columns.count) (j / g.columns.count) (a.down ∙ sym b.down))

-- the index of the tile that has a point
pub record HasIndex (g : GridModel) (x y : ℤ) : Type 0 where
  pub index : ℕ
  pub below : index < count_of g
  pub here : IsTrue (holds (tile_at g index).rect x y)

points_index : (s : TileSides) (b : Bounds) (x y : ℤ) → AreTileSides s → IsInside b x y → HasIndex (points_grid s b) x y
points_index s b x y are i =
    let g = points_grid s b in
    let a = axis_has s.width x (some_side s.width are.width) in
    let d = axis_has s.height y (some_side s.height are.height) in
    let col = tile_of s.width x in
    let row = tile_of s.height y in
    let c = has_index s.width b.x0 b.x1 col (some_side s.width are.width) (record { begins = le_lt (col *ℤ pos s.width) x b.x1 a.low i.right; ends = le_lt b.x0 x _ i.left a.high }) in
    let r = has_index s.height b.y0 b.y1 row (some_side s.height are.height) (record { begins = le_lt (row *ℤ pos s.height) y b.y1 d.low i.bottom; ends = le_lt b.y0 y _ i.top d.high }) in
    let there : (tile_at g (r.index * g.columns.count + c.index)).rect ≡ tile_rect s col row =
    ap (λ (t : GridTile). t.rect) (at_index g c.index r.index c.inside) ∙ ap₂ (λ (u v : ℤ). tile_rect s u v) c.place r.place in
    record {
      index = r.index * g.columns.count + c.index;
      below = index_below g.columns.count g.rows.count c.index r.index c.inside r.inside;
      here = subst (λ (t : Bounds). IsTrue (holds t x y)) (sym there) (tile_holds s x y are);
    }

-- each point of a rectangle lies in a tile of the grid over it
pub index_of_point : (s : TileSides) (b : Bounds) (x y : ℤ) → AreTileSides s → IsTrue (has_points b) → IsTrue (holds b x y) → HasIndex (grid_over s b) x y
index_of_point s b x y are points h = subst (λ (g : GridModel). HasIndex g x y) (over_points s b points) (points_index s b x y are (inside b x y h))

-- a grid over a rectangle has the sides that it was made with
sides_by : (s : TileSides) (b : Bounds) (t : Bool) → has_points b ≡ t → (grid_over s b).sides ≡ s
sides_by s b true e = ap (λ (g : GridModel). g.sides) (sym (over_points s b e))
sides_by s b false e = ap (λ (g : GridModel). g.sides) (sym (over_none s b e))

pub grid_sides : (s : TileSides) (b : Bounds) → (grid_over s b).sides ≡ s
grid_sides s b = sides_by s b (has_points b) refl
