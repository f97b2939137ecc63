-- The tiles that a rectangle with room meets are in range.
use Rattle.std.proofs.Common.{◌≡◌, ℕ, ◌<◌, ◌≤◌, ◌/◌, ◌^◌, Bool, true, false, refl, sym, subst, arith}
use Rattle.std.specs.Prelude.{ℤ, pos, negsuc, neg_ℤ, ◌+ℤ◌, ◌-ℤ◌, ◌*ℤ◌, ◌≤ℤ◌, ◌<ℤ◌, unsigned_abs}
use Rattle.std.proofs.lemmas.Int.{ints}
use Rattle.std.proofs.Math.Nat.{div-le_self}
use Rattle.wr_geom.specs.Bounds.{Bounds, IsCoordinate, has_points}
use Rattle.wr_geom.proofs.Points.{HasSides, has_sides}
use Rattle.tile_grid.specs.declared.tile.TileSides.{TileSides}
use Rattle.tile_grid.specs.Tiles.{AreTileSides, IsTileSide}
use Rattle.tile_grid.specs.Grids.{HasTileRoom, IsGrid, IsNearSpan, tile_of, span_over, no_tiles, grid_over}
use Rattle.tile_grid.specs.Laws.{TilesAreInRange}
use Rattle.tile_grid.specs.Parts.{HasCoordinates}
use Rattle.tile_grid.proofs.Axes.{span_has}
use Rattle.tile_grid.proofs.Floors.{some_tile}
use Rattle.tile_grid.proofs.Grids.{points_grid, over_points, over_none, some_side}

-- within m of 0
record IsWithin (m : ℕ) (z : ℤ) : Type 0 where
  low : neg_ℤ (pos m) ≤ℤ z
  high : z ≤ℤ pos m

quotient_least : (a n : ℕ) → a / n ≤ a
quotient_least a n = div-le_self a n

-- the tile that has a coordinate lies no farther from 0
tile_near : (n m : ℕ) (z : ℤ) → IsWithin m z → IsWithin m (tile_of n z)
tile_near n m (pos a) h = let q = quotient_least a n in record { low = omega (arith, ints, h.low, h.high, q); high = omega (arith, ints, h.low, h.high, q) }
tile_near n m (negsuc a) h = let q = quotient_least a n in record { low = omega (arith, ints, h.low, h.high, q); high = omega (arith, ints, h.low, h.high, q) }

to_end : (f l : ℤ) → f ≤ℤ l → (f +ℤ pos (unsigned_abs ((l +ℤ pos 1) -ℤ f))) ≡ (l +ℤ pos 1)
to_end f l h = omega (arith, ints, h)

near_span : (n : ℕ) (a b : ℤ) → 0 < n → a <ℤ b → neg_ℤ (pos (2 ^ 28)) ≤ℤ a → b ≤ℤ pos (2 ^ 28) → IsNearSpan (span_over n a b)
near_span n a b h o low high =
    let f = tile_near n (2 ^ 28) a (record { low = low; high = omega (arith, ints, o, high) }) in
    let l = tile_near n (2 ^ 28) (b -ℤ pos 1) (record { low = omega (arith, ints, o, low); high = omega (arith, ints, high) }) in
    let e = to_end (tile_of n a) (tile_of n (b -ℤ pos 1)) (some_tile n a b h o) in
    record { low = omega (arith, ints, f.low); high = subst (λ (z : ℤ). z ≤ℤ pos (2 ^ 29)) (sym e) (omega (arith, ints, l.high)) }

near_low : (a c : ℤ) (w : ℕ) → w ≤ 1024 → neg_ℤ (pos (2 ^ 28)) ≤ℤ a → a <ℤ (c +ℤ pos w) → neg_ℤ (pos (2 ^ 29)) ≤ℤ c
near_low a c w l h k = omega (arith, ints, l, h, k)

near_high : (b c : ℤ) (w : ℕ) → w ≤ 1024 → b ≤ℤ pos (2 ^ 28) → c <ℤ b → (c +ℤ pos w) ≤ℤ pos (2 ^ 29)
near_high b c w l h k = omega (arith, ints, l, h, k)

-- the edges of a tile on one axis
record AreNearEdges (c : ℤ) (w : ℕ) : Type 0 where
  order : c ≤ℤ (c +ℤ pos w)
  near : IsCoordinate c
  far : IsCoordinate (c +ℤ pos w)

near_edges : (a b t : ℤ) (w : ℕ) → IsTileSide w → neg_ℤ (pos (2 ^ 28)) ≤ℤ a → b ≤ℤ pos (2 ^ 28) → HasCoordinates w a b t → AreNearEdges (t *ℤ pos w) w
near_edges a b t w s h j k =
    let c = t *ℤ pos w in
    let x = near_low a c w (omega (arith, s.most)) h k.ends in let y = near_high b c w (omega (arith, s.most)) j k.begins in
    record { order = omega (arith, ints); near = record { low = x; high = omega (arith, ints, y) }; far = record { low = omega (arith, ints, x); high = y } }

points_in_range : (s : TileSides) (b : Bounds) → AreTileSides s → HasTileRoom b → HasSides b → IsGrid (points_grid s b)
points_in_range s b h room t = record {
  sides = h;
  columns = near_span s.width b.x0 b.x1 (some_side s.width h.width) t.across room.left room.right;
  rows = near_span s.height b.y0 b.y1 (some_side s.height h.height) t.down room.top room.bottom;
  rects = λ c r i j.
      let x = near_edges b.x0 b.x1 _ s.width h.width room.left room.right (span_has s.width b.x0 b.x1 c (some_side s.width h.width) t.across i) in
      let y = near_edges b.y0 b.y1 _ s.height h.height room.top room.bottom (span_has s.height b.y0 b.y1 r (some_side s.height h.height) t.down j) in
      record { across = x.order; down = y.order; in_range = record { left = x.near; top = y.near; right = x.far; bottom = y.far } };
}

no_near : IsNearSpan no_tiles
no_near = record { low = omega (arith, ints); high = omega (arith, ints) }

none_in_range : (s : TileSides) → AreTileSides s → IsGrid (record { sides = s; columns = no_tiles; rows = no_tiles })
none_in_range s h = record { sides = h; columns = no_near; rows = no_near; rects = λ c r i j. absurd (omega (arith, i)) }

pub tiles_are_in_range : TilesAreInRange
tiles_are_in_range s b h room = by_points (has_points b) refl
  where
    by_points : (t : Bool) → has_points b ≡ t → IsGrid (grid_over s b)
    by_points true e = subst IsGrid (over_points s b e) (points_in_range s b h room (has_sides b e))
    by_points false e = subst IsGrid (over_none s b e) (none_in_range s h)
