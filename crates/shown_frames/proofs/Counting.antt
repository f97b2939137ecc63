-- How many tiles slices of a view meet.
use Rattle.std.proofs.Common.{◌≡◌, ◌<◌, ◌≤◌, ◌+◌, ◌*◌, ℕ, zero, suc, Bool, true, false, List, [], ◌∷◌, length, All, ℤ, pos, ◌+ℤ◌, ◌-ℤ◌, ◌*ℤ◌, ◌≤ℤ◌, ◌<ℤ◌, unsigned_abs, refl, sym, ap, subst, ◌∙◌, arith}
use Rattle.std.proofs.Math.IntN.{suc_ℤ-*ℤ, +ℤ-suc_ℤ}
use Rattle.std.proofs.lemmas.Int.{ints, by_lt_z}
use Rattle.std.proofs.lemmas.List.{length-append}
use Rattle.std.proofs.lemmas.List.Elements.{All-head, All-tail}
use Rattle.std.proofs.lemmas.Nat.{mul-le}
use Rattle.wr_geom.specs.Bounds.{Bounds, Covers, has_points}
use Rattle.wr_geom.specs.declared.point.Point.{Point}
use Rattle.wr_geom.proofs.Points.{HasSides, around, has_sides}
use Rattle.picture_slices.specs.Facts.{IsSlice}
use Rattle.picture_slices.specs.declared.slice.Slice.{Slice}
use Rattle.tile_grid.specs.Grids.{GridModel, IsViewPart, count_of, grid_over, in_slice, span_over, tile_of}
use Rattle.tile_grid.specs.Tiles.{AreTileSides}
use Rattle.tile_grid.specs.declared.tile.TileSides.{TileSides}
use Rattle.tile_grid.proofs.Floors.{some_tile, tile_floor}
use Rattle.tile_grid.proofs.Grids.{over_none, over_points, points_grid}
use Rattle.kept_tiles.specs.Work.{frame_tiles, slice_tiles}
use Rattle.kept_tiles.proofs.Slices.{length_shown}
use Rattle.shown_frames.specs.Laws.{TilesAreFew}

-- ---- on one axis

-- so many tiles further
tiles_on : (s n : ℕ) (c : ℤ) → ((c +ℤ pos n) *ℤ pos s) ≡ (c *ℤ pos s +ℤ pos (n * s))
tiles_on s zero c = ap (λ z. z *ℤ pos s) (let e : (c +ℤ pos 0) ≡ c = omega (arith, ints) in e) ∙ none (c *ℤ pos s)
  where
    none : (z : ℤ) → z ≡ (z +ℤ pos (0 * s))
    none z = omega (arith, ints)
tiles_on s (suc n) c = ap (λ z. z *ℤ pos s) (+ℤ-suc_ℤ c (pos n)) ∙ suc_ℤ-*ℤ (c +ℤ pos n) (pos s) ∙ ap (λ z. z +ℤ pos s) (tiles_on s n c) ∙ one_more (c *ℤ pos s) (n * s) (suc n * s) (omega arith)
  where
    one_more : (z : ℤ) (p q : ℕ) → q ≡ p + s → ((z +ℤ pos p) +ℤ pos s) ≡ (z +ℤ pos q)
    one_more z p q e = omega (arith, ints, e)

-- 65 tiles of at least 64 pixels on from the one that has a, all coordinates up to 4,096 beyond a lie before
too_far : (a b z p q : ℤ) (s : ℕ) → 64 ≤ s → b ≤ℤ (a +ℤ pos 4096) → p ≡ (z +ℤ pos (1 * s)) → q ≡ (z +ℤ pos (65 * s)) → a <ℤ p → q ≤ℤ (b -ℤ pos 1) → ⊥
too_far a b z p q s least near e f low high = omega (arith, ints, least, near, e, f, low, high)

past_floor : (s : ℕ) (a : ℤ) → 0 < s → a <ℤ ((tile_of s a +ℤ pos 1) *ℤ pos s)
past_floor s a h = by_lt_z a ((tile_of s a +ℤ pos 1) *ℤ pos s) (λ k. k) (λ k. absurd (let y = (tile_floor s (tile_of s a +ℤ pos 1) a h).1 k in omega (arith, ints, y)))

few_between : (f l : ℤ) → f ≤ℤ l → l <ℤ (f +ℤ pos 65) → unsigned_abs ((l +ℤ pos 1) -ℤ f) ≤ 65
few_between f l h k = omega (arith, ints, h, k)

few_on : (s : ℕ) (a b : ℤ) → 64 ≤ s → a <ℤ b → b ≤ℤ (a +ℤ pos 4096) → (span_over s a b).count ≤ 65
few_on s a b least some near =
    let h : 0 < s = omega (arith, least) in
    let f = tile_of s a in
    let l = tile_of s (b -ℤ pos 1) in
    let last : l <ℤ (f +ℤ pos 65) = by_lt_z l (f +ℤ pos 65) (λ k. k)
    (λ k. absurd (too_far a b (f *ℤ pos s) ((f +ℤ pos 1) *ℤ pos s) ((f +ℤ pos 65) *ℤ pos s) s least near (tiles_on s 1 f) (tiles_on s 65 f) (past_floor s a h) ((tile_floor s (f +ℤ pos 65) (b -ℤ pos 1) h).0 k))) in
    few_between f l (some_tile s a b h some) last

-- ---- one slice

-- the sides of what a slice shows, moved
record AreShort (b : Bounds) : Type 0 where
  some_across : b.x0 <ℤ b.x1
  across : b.x1 ≤ℤ (b.x0 +ℤ pos 4096)
  some_down : b.y0 <ℤ b.y1
  down : b.y1 ≤ℤ (b.y0 +ℤ pos 4096)

short_part : (view b : Bounds) (origin : Point) → IsViewPart view → Covers view b → HasSides b → HasSides (in_slice b origin) → AreShort (in_slice b origin)
short_part view b origin part covers s t =
    let w = around view b s covers in
    record {
      some_across = t.across;
      across = omega (arith, ints, w.left, w.right, part.left, part.right);
      some_down = t.down;
      down = omega (arith, ints, w.top, w.bottom, part.top, part.bottom);
    }

few_in : (sides : TileSides) (b : Bounds) → AreTileSides sides → AreShort b → count_of (points_grid sides b) ≤ 65 * 65
few_in sides b are h =
    mul-le (span_over sides.height b.y0 b.y1).count (span_over sides.width b.x0 b.x1).count 65 65
    (few_on sides.height b.y0 b.y1 (omega (arith, are.height.some)) h.some_down h.down)
    (few_on sides.width b.x0 b.x1 (omega (arith, are.width.some)) h.some_across h.across)

sides_back : (b : Bounds) (origin : Point) → HasSides (in_slice b origin) → HasSides b
sides_back b origin h = record { across = omega (arith, ints, h.across); down = omega (arith, ints, h.down) }

few_by : (sides : TileSides) (view b : Bounds) (origin : Point) (t : Bool) → AreTileSides sides → IsViewPart view → Covers view b → has_points (in_slice b origin) ≡ t → count_of (grid_over sides (in_slice b origin)) ≤ 65 * 65
few_by sides view b origin true are part covers e =
    let s = has_sides (in_slice b origin) e in
    subst (λ (g : GridModel). count_of g ≤ 65 * 65) (over_points sides (in_slice b origin) e) (few_in sides (in_slice b origin) are (short_part view b origin part covers (sides_back b origin s) s))
few_by sides view b origin false are part covers e = subst (λ (g : GridModel). count_of g ≤ 65 * 65) (over_none sides (in_slice b origin) e) (omega arith)

few_of : (sides : TileSides) (view : Bounds) (s : Slice) → AreTileSides sides → IsViewPart view → IsSlice view s → length (slice_tiles sides s) ≤ 65 * 65
few_of sides view s are part is =
    let g = grid_over sides (in_slice s.shown s.origin) in
    subst (λ (n : ℕ). n ≤ 65 * 65) (sym (length_shown s g)) (few_by sides view s.shown s.origin (has_points (in_slice s.shown s.origin)) are part is.shown refl)

-- ---- all slices

few_all : (sides : TileSides) (view : Bounds) (ss : List Slice) → AreTileSides sides → IsViewPart view → All (IsSlice view) ss → length (frame_tiles sides ss) ≤ length ss * (65 * 65)
few_all sides view [] are part all = omega arith
few_all sides view (s ∷ ss) are part all =
    let a = length-append (slice_tiles sides s) (frame_tiles sides ss) in
    let b = few_of sides view s are part (All-head (IsSlice view) s ss all) in
    let c = few_all sides view ss are part (All-tail (IsSlice view) s ss all) in
    omega (arith, a, b, c)

pub tiles_are_few : TilesAreFew
tiles_are_few sides view slices are part h =
    let a = few_all sides view slices are part h.each in
    let b = mul-le (length slices) (65 * 65) 8 (65 * 65) h.few (omega arith) in
    omega (arith, a, b)
