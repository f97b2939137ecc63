-- Parts of grids, and where rectangles are empty.
use Rattle.std.proofs.Common.{◌≡◌, ℕ, ◌<◌, ◌≤◌, ◌↔◌, Bool, true, false, not, ◌&&◌, nat_le, nat_lt, refl, sym, ◌∙◌, arith}
use Rattle.std.specs.Prelude.{ℤ, pos, ◌+ℤ◌, ◌-ℤ◌, ◌<ℤ◌}
use Rattle.std.proofs.lemmas.Int.{ints}
use Rattle.std.proofs.lemmas.Bool.{and_parts, and_from}
use Rattle.std.proofs.lemmas.Bool.Decides.{nat_tests}
use Rattle.wr_geom.specs.Bounds.{Bounds, IsCoordinate, IsRect, has_points}
use Rattle.wr_geom.proofs.Points.{HasSides}
use Rattle.tile_grid.specs.declared.part.GridPart.{GridPart}
use Rattle.tile_grid.specs.declared.part.SpanPart.{SpanPart}
use Rattle.tile_grid.specs.Tiles.{AreTileSides, meets}
use Rattle.tile_grid.specs.Grids.{GridModel, tile_in}
use Rattle.tile_grid.specs.Parts.{IsInPart, HasCoordinates, is_in_part}
use Rattle.tile_grid.proofs.Grids.{meets_by_axes, axes_meet}
use Rattle.tile_grid.proofs.Meetings.{meets_none}

pub not_true : (b : Bool) → true ≡ not b → b ≡ false
not_true true h = h
not_true false h = refl

pub not_false : (b : Bool) → false ≡ not b → b ≡ true
not_false true h = refl
not_false false h = h

in_span : (p : SpanPart) (k : ℕ) → (nat_le p.from k && nat_lt k p.to) ≡ true → IsInPart p k
in_span p k h =
    let e = and_parts (nat_le p.from k) (nat_lt k p.to) h in
    let a : nat_le p.from k ≡ true = e.0 in let b : nat_lt k p.to ≡ true = e.1 in
    record { from = grind (arith, nat_tests); to = grind (arith, nat_tests) }

is_from : (a b : ℕ) → a ≤ b → nat_le a b ≡ true
is_from a b h = grind (arith, nat_tests)

is_to : (a b : ℕ) → a < b → nat_lt a b ≡ true
is_to a b h = grind (arith, nat_tests)

to_span : (p : SpanPart) (k : ℕ) → IsInPart p k → (nat_le p.from k && nat_lt k p.to) ≡ true
to_span p k h = and_from (nat_le p.from k) (nat_lt k p.to) (is_from p.from k h.from) (is_to k p.to h.to)

record IsInBoth (p : GridPart) (c r : ℕ) : Type 0 where
  across : IsInPart p.columns c
  down : IsInPart p.rows r

in_both : (p : GridPart) (c r : ℕ) → is_in_part p c r ≡ true → IsInBoth p c r
unfolding is_in_part
in_both p c r h =
    let e = and_parts (nat_le p.columns.from c && nat_lt c p.columns.to) (nat_le p.rows.from r && nat_lt r p.rows.to) h in
    record { across = in_span p.columns c e.0; down = in_span p.rows r e.1 }

to_both : (p : GridPart) (c r : ℕ) → IsInBoth p c r → is_in_part p c r ≡ true
unfolding is_in_part
to_both p c r h = and_from (nat_le p.columns.from c && nat_lt c p.columns.to) (nat_le p.rows.from r && nat_lt r p.rows.to) (to_span p.columns c h.across) (to_span p.rows r h.down)

same_tests : (s t : Bool) → (s ≡ true → t ≡ true) → (t ≡ true → s ≡ true) → s ≡ t
same_tests true t f g = sym (f refl)
same_tests false true f g = g refl
same_tests false false f g = refl

pub part_meets : (g : GridModel) (b : Bounds) (p : GridPart) (c r : ℕ) → AreTileSides g.sides → HasSides b
    → IsInPart p.columns c ↔ HasCoordinates g.sides.width b.x0 b.x1 (g.columns.first +ℤ pos c)
    → IsInPart p.rows r ↔ HasCoordinates g.sides.height b.y0 b.y1 (g.rows.first +ℤ pos r)
    → is_in_part p c r ≡ meets (tile_in g c r).rect b
part_meets g b p c r h s across down = same_tests (is_in_part p c r) (meets (tile_in g c r).rect b)
    (λ i. let k = in_both p c r i in meets_by_axes g.sides b (g.columns.first +ℤ pos c) (g.rows.first +ℤ pos r) h s (across.0 k.across) (down.0 k.down))
    (λ m. let k = axes_meet g.sides b (g.columns.first +ℤ pos c) (g.rows.first +ℤ pos r) m in to_both p c r (record { across = across.1 k.across; down = down.1 k.down }))

pub part_none : (g : GridModel) (b : Bounds) (p : GridPart) (c r : ℕ) → p.columns.to ≡ 0 → has_points b ≡ false → is_in_part p c r ≡ meets (tile_in g c r).rect b
part_none g b p c r e h = by_test (is_in_part p c r) refl ∙ sym (meets_none (tile_in g c r).rect b h)
  where
    by_test : (t : Bool) → is_in_part p c r ≡ t → t ≡ false
    by_test true i = let k = (in_both p c r i).across.to in absurd (omega (arith, e, k))
    by_test false i = refl

-- the last column and the last row of a rectangle with points
before_end : (x y : ℤ) → x <ℤ y → IsCoordinate x → IsCoordinate y → IsCoordinate (y -ℤ pos 1)
before_end x y k a b = record { low = omega (arith, ints, k, a.low); high = omega (arith, ints, b.high) }

pub last_column : (b : Bounds) → IsRect b → HasSides b → IsCoordinate (b.x1 -ℤ pos 1)
last_column b r s = before_end b.x0 b.x1 s.across r.in_range.left r.in_range.right

pub last_row : (b : Bounds) → IsRect b → HasSides b → IsCoordinate (b.y1 -ℤ pos 1)
last_row b r s = before_end b.y0 b.y1 s.down r.in_range.top r.in_range.bottom
