-- Rectangles that meet: told by points, and by edges.
use Rattle.std.proofs.Common.{◌≡◌, ℤ, ◌<ℤ◌, Bool, true, false, IsTrue, if◌then◌else◌, refl, sym, ap, ◌∙◌, true≢false, arith}
use Rattle.std.proofs.lemmas.Int.{ints, clamps}
use Rattle.std.proofs.lemmas.Bool.{and_parts, and_from}
use Rattle.wr_geom.specs.Bounds.{Bounds, holds, has_points, nowhere, overlap, intersection}
use Rattle.wr_geom.proofs.Points.{HasSides, inside, holds_it, has_sides, sides_has, corner_inside, intersection_points}
use Rattle.wr_geom.proofs.Rects.{intersection_commutes}
use Rattle.tile_grid.specs.Tiles.{meets}
use Rattle.tile_grid.specs.Laws.{MeetingIsSharingAPoint, MeetingCommutes}

-- on each axis each begins before the other ends
pub record AreOverlapping (a b : Bounds) : Type 0 where
  pub left : b.x0 <ℤ a.x1
  pub right : a.x0 <ℤ b.x1
  pub top : b.y0 <ℤ a.y1
  pub bottom : a.y0 <ℤ b.y1

nowhere_has : has_points nowhere ≡ false
unfolding has_points
nowhere_has = refl

by_overlap : (a b : Bounds) (t : Bool) → has_points (overlap a b) ≡ t → has_points (if t then overlap a b else nowhere) ≡ has_points (overlap a b)
by_overlap a b true e = refl
by_overlap a b false e = nowhere_has ∙ sym e

same_meeting : (a b : Bounds) → meets a b ≡ has_points (overlap a b)
unfolding meets intersection
same_meeting a b = by_overlap a b (has_points (overlap a b)) refl

overlap_sides : (a b : Bounds) → meets a b ≡ true → HasSides (overlap a b)
overlap_sides a b h = has_sides (overlap a b) (sym (same_meeting a b) ∙ h)

pub meets_to : (a b : Bounds) → meets a b ≡ true → AreOverlapping a b
meets_to a b h =
    let s = overlap_sides a b h in
    record { left = omega (arith, ints, clamps, s.across); right = omega (arith, ints, clamps, s.across); top = omega (arith, ints, clamps, s.down); bottom = omega (arith, ints, clamps, s.down) }

pub second_sides : (a b : Bounds) → meets a b ≡ true → HasSides b
second_sides a b h =
    let s = overlap_sides a b h in
    record { across = omega (arith, ints, clamps, s.across); down = omega (arith, ints, clamps, s.down) }

pub to_meets : (a b : Bounds) → HasSides a → HasSides b → AreOverlapping a b → meets a b ≡ true
to_meets a b s t o =
    same_meeting a b ∙ sides_has (overlap a b) (record { across = omega (arith, ints, clamps, s.across, t.across, o.left, o.right); down = omega (arith, ints, clamps, s.down, t.down, o.top, o.bottom) })

pub meets_none : (a b : Bounds) → has_points b ≡ false → meets a b ≡ false
meets_none a b e = by_test (meets a b) refl
  where
    by_test : (t : Bool) → meets a b ≡ t → t ≡ false
    by_test true h = absurd (true≢false (sym (sides_has b (second_sides a b h)) ∙ e))
    by_test false h = refl

pub meets_points : MeetingIsSharingAPoint
unfolding meets
meets_points a b = (shared, λ p. found p.0 p.1 p.2 p.3)
  where
    shared : IsTrue (has_points (intersection a b)) → (x : ℤ) × (y : ℤ) × IsTrue (holds a x y) × IsTrue (holds b x y)
    shared h =
        let x = (intersection a b).x0 in
        let y = (intersection a b).y0 in
        let k = and_parts (holds a x y) (holds b x y) (sym (intersection_points a b x y) ∙ holds_it (intersection a b) x y (corner_inside (intersection a b) (has_sides (intersection a b) h))) in
        (x, y, k.0, k.1)

    found : (x y : ℤ) → IsTrue (holds a x y) → IsTrue (holds b x y) → IsTrue (has_points (intersection a b))
    found x y h k =
        let i = inside (intersection a b) x y (intersection_points a b x y ∙ and_from (holds a x y) (holds b x y) h k) in
        sides_has (intersection a b) (record { across = omega (arith, ints, i.left, i.right); down = omega (arith, ints, i.top, i.bottom) })

pub meets_commutes : MeetingCommutes
unfolding meets
meets_commutes a b = ap has_points (intersection_commutes a b)
