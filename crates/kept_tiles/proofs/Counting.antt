-- How many pixels are drawn, and that 64 bits hold their number.
use Rattle.std.proofs.Common.{◌≡◌, ◌<◌, ◌≤◌, ◌+◌, ◌*◌, ◌^◌, ℕ, zero, suc, Bool, true, false, ◌&&◌, List, [], ◌∷◌, ◌++◌, length, Option, Some, None, if◌then◌else◌, refl, sym, subst, arith}
use Rattle.std.proofs.lemmas.Int.{ints}
use Rattle.std.proofs.lemmas.Nat.{mul-le}
use Rattle.std.specs.Map.{lookup}
use Rattle.wr_geom.specs.Bounds.{Bounds, area_of, has_points, height_of, intersection, width_of}
use Rattle.wr_geom.specs.declared.keys.TileKey.{TileKey}
use Rattle.wr_geom.proofs.Points.{has_sides, intersection_or_nowhere}
use Rattle.wr_geom.proofs.Rects.{intersection_in_second}
use Rattle.picture_slices.specs.declared.slice.Slice.{Slice}
use Rattle.primitives.specs.Stacks.{balanced}
use Rattle.primitives.specs.declared.entry.Entry.{Entry}
use Rattle.tile_grid.specs.Grids.{GridModel, grid_over, in_slice, tile_at, tiles_of, tiles_from, count_of}
use Rattle.tile_grid.specs.Tiles.{AreTileSides}
use Rattle.tile_grid.specs.declared.tile.TileSides.{TileSides}
use Rattle.tile_store.specs.Keys.{same_key}
use Rattle.tile_store.specs.Tiles.{HasTileSides}
use Rattle.tile_store.proofs.Ready.{within}
use Rattle.tile_records.specs.Dirt.{dirt, extent, extent_from, middles, same_entry}
use Rattle.kept_tiles.specs.Tiles.{KeptModel, kept_of}
use Rattle.kept_tiles.specs.Work.{Records, Shown, frame_tiles, records_of, shown_tiles, slice_tiles, stale_area, stale_part, tile_work, tiles_work, work_at, work_on}
use Rattle.kept_tiles.proofs.Fitting.{dirt_narrow}
use Rattle.kept_tiles.proofs.Progress.{IsCounting, cost_append}
use Rattle.kept_tiles.proofs.Slices.{grid_sides, rect_sides}

-- ---- of one tile

-- what two rectangles share is no higher than the second
shared_short : (a b : Bounds) → height_of (intersection a b) ≤ height_of b
shared_short a b = by_points (has_points (intersection a b)) refl
  where
    by_points : (t : Bool) → has_points (intersection a b) ≡ t → height_of (intersection a b) ≤ height_of b
    by_points false e = subst (λ (r : Bounds). height_of r ≤ height_of b) (sym (intersection_or_nowhere a b e)) (omega arith)
    by_points true e =
        let s = has_sides (intersection a b) e in
        let w = within b (intersection a b) (intersection_in_second a b) s.across s.down in
        omega (arith, ints, w.top, w.bottom, s.down)

test_short : (t : Bool) (a rect : Bounds) → height_of (if t then intersection a rect else rect) ≤ height_of rect
test_short true a rect = shared_short a rect
test_short false a rect = omega arith

dirt_short : (old new : List Entry) (rect : Bounds) → height_of (dirt old new rect) ≤ height_of rect
dirt_short old new rect =
    let m = middles same_entry old new in
    test_short (balanced 0 m.old && balanced 0 m.new) (extent_from (extent m.old) m.new) rect

small_area : (part rect : Bounds) → HasTileSides rect → width_of part ≤ width_of rect → height_of part ≤ height_of rect → area_of part ≤ 2 ^ 20
small_area part rect sides narrow short =
    let across : width_of part ≤ 1024 = omega (arith, narrow, sides.across) in
    let down : height_of part ≤ 1024 = omega (arith, short, sides.down) in
    mul-le (width_of part) (height_of part) 1024 1024 across down

small_part : (o : Option (List Entry)) (entries : List Entry) (rect : Bounds) → HasTileSides rect → area_of (stale_part o entries rect) ≤ 2 ^ 20
small_part None entries rect sides = small_area rect rect sides (omega arith) (omega arith)
small_part (Some old) entries rect sides = small_area (dirt old entries rect) rect sides (dirt_narrow old entries rect) (dirt_short old entries rect)

-- a tile costs at most 1,024 times 1,024 pixels
pub small_cost : (kept : Records) (key : TileKey) (rect : Bounds) (entries : List Entry) → HasTileSides rect → (work_at kept key rect entries).cost ≤ 2 ^ 20
small_cost kept key rect [] sides = omega arith
small_cost kept key rect (e ∷ es) sides = small_part (lookup (same_key key) kept) (e ∷ es) rect sides

pub some_cost : (kept : Records) (key : TileKey) (rect : Bounds) (entries : List Entry) → 0 < length entries → stale_area kept key rect entries ≡ (work_at kept key rect entries).cost
some_cost kept key rect [] some = absurd (omega (arith, some))
some_cost kept key rect (e ∷ es) some = refl

pub no_cost : (kept : Records) (key : TileKey) (rect : Bounds) (entries : List Entry) → entries ≡ [] → 0 ≡ (work_at kept key rect entries).cost
no_cost kept key rect entries none = rw none refl

-- ---- of many

-- each has the sides of a tile
abbrev pub AreSmall : List Shown → Type 0
AreSmall [] = Unit {0}
AreSmall (v ∷ vs) = HasTileSides v.rect × AreSmall vs

pub small_costs : (kept : Records) (vs : List Shown) → AreSmall vs → (tiles_work kept vs).cost ≤ length vs * 2 ^ 20
small_costs kept [] small = omega arith
small_costs kept (v ∷ vs) small =
    let a = small_cost kept v.key v.rect v.entries small.0 in
    let b = small_costs (tile_work kept v).kept vs small.1 in
    omega (arith, a, b)

small_from : (slice : Slice) (g : GridModel) (i n : ℕ) → AreTileSides g.sides → AreSmall (shown_tiles slice (tiles_from g i n))
small_from slice g i zero sides = tt
small_from slice g i (suc n) sides = (rect_sides g.sides (tile_at g i).col (tile_at g i).row sides, small_from slice g (suc i) n sides)

pub small_tiles : (slice : Slice) (g : GridModel) → AreTileSides g.sides → AreSmall (shown_tiles slice (tiles_of g))
small_tiles slice g sides = small_from slice g 0 (count_of g) sides

small_append : (xs ys : List Shown) → AreSmall xs → AreSmall ys → AreSmall (xs ++ ys)
small_append [] ys a b = b
small_append (x ∷ xs) ys a b = (a.0, small_append xs ys a.1 b)

pub small_frame : (sides : TileSides) (slices : List Slice) → AreTileSides sides → AreSmall (frame_tiles sides slices)
small_frame sides [] are = tt
small_frame sides (s ∷ ss) are =
    let grid = grid_over sides (in_slice s.shown s.origin) in
    small_append (slice_tiles sides s) (frame_tiles sides ss)
    (small_tiles s grid (subst AreTileSides (sym (grid_sides sides (in_slice s.shown s.origin))) are)) (small_frame sides ss are)

-- after one part more it still fits
pub counting_fits : (old now : KeptModel) (all xs left : List Shown) (drawn most : ℕ) → IsCounting old now all (xs ++ left) drawn → AreSmall all → length all ≤ most → drawn + (work_on now xs).cost ≤ most * 2 ^ 20
counting_fits old now all xs left drawn most c small few =
    let a = cost_append (records_of (kept_of now)) xs left in
    let b = small_costs (records_of (kept_of old)) all small in
    let s = c.sum in
    omega (arith, a, b, s, few)
