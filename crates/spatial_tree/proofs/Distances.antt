-- How far nodes are moved.
use Rattle.std.proofs.Common.{◌≡◌, ℕ, ◌+◌, ◌*◌, ◌^◌, ◌≤◌, ℤ, pos, neg_ℤ, ◌+ℤ◌, ◌≤ℤ◌, List, [], ◌∷◌, length, Option, Some, None, refl, sym, subst, arith, rules, FitsSigned, w32}
use Rattle.std.specs.Prelude.{All, fold}
use Rattle.std.specs.Ordering.{nat_cmp}
use Rattle.std.specs.FinMap.{FinMap, get}
use Rattle.std.proofs.lemmas.Int.{ints, clamps}
use Rattle.std.proofs.lemmas.List.Elements.{All-head, All-tail}
use Rattle.wr_geom.specs.Points.{IsPoint, point_sum}
use Rattle.wr_geom.specs.declared.point.Point.{Point}
use Rattle.field_forms.specs.Facts.{IsNear}
use Rattle.display_list.specs.declared.node.Node.{Node}
use Rattle.display_list.specs.declared.node.Node.TheVariants as node
use Rattle.display_list.specs.Facts.{IsNode}
use Rattle.spatial_tree.specs.Moves.{MovesModel, IsNearPair, AreNearPairs, AreNearMoves}
use Rattle.spatial_tree.specs.Offsets.{IsWithin, IsOffset, no_distance, distance_of, stored, property_of, clamped, shift_of}

pub within_sum : (m n : ℕ) (p q : Point) → IsWithin m p → IsWithin n q → IsWithin (m + n) (point_sum p q)
within_sum m n p q f g =
    record { left = omega (arith, ints, f.left, g.left); right = omega (arith, ints, f.right, g.right); top = omega (arith, ints, f.top, g.top); bottom = omega (arith, ints, f.bottom, g.bottom) }

pub within_more : (m n : ℕ) (p : Point) → m ≤ n → IsWithin m p → IsWithin n p
within_more m n p l f =
    record { left = omega (arith, ints, f.left); right = omega (arith, ints, f.right); top = omega (arith, ints, f.top); bottom = omega (arith, ints, f.bottom) }

near_point : (x y : ℤ) → IsNear x → IsNear y → IsWithin 1048576 (record { x = x; y = y })
near_point x y f g = record { left = omega (arith, ints, f.low); right = f.high; top = omega (arith, ints, g.low); bottom = g.high }

pub no_distance_within : (n : ℕ) → IsWithin n no_distance
no_distance_within n = record { left = omega (arith, ints); right = omega (arith, ints); top = omega (arith, ints); bottom = omega (arith, ints) }

pub distance_within : (o : Option (ℤ × ℤ)) → ((d : ℤ × ℤ) → o ≡ Some d → IsNearPair d) → IsWithin 1048576 (distance_of o)
distance_within None f = no_distance_within 1048576
distance_within (Some d) f = let near = f d refl in near_point d.0 d.1 near.x near.y

pub stored_within : (m : FinMap nat_cmp (ℤ × ℤ)) (k : ℕ) → AreNearPairs m → IsWithin 1048576 (stored m k)
unfolding stored
stored_within m k near = distance_within (get m k) (near k)

pub property_within : (m : MovesModel) (o : Option ℕ) → AreNearMoves m → IsWithin 1048576 (property_of m o)
property_within m None near = no_distance_within 1048576
property_within m (Some k) near = stored_within m.offsets k near.offsets

-- at least 0, and at most the content's side
pub clamped_low : (z : ℤ) (v c : ℕ) → pos 0 ≤ℤ clamped z v c
unfolding clamped
clamped_low z v c = omega (arith, ints, clamps)

pub clamped_high : (z : ℤ) (v c : ℕ) → clamped z v c ≤ℤ pos c
unfolding clamped
clamped_high z v c = omega (arith, ints, clamps)

pub shift_within : (m : MovesModel) (n : Node) → AreNearMoves m → IsNode n → IsWithin 2097152 (shift_of m n)
shift_within m (node.Reference parent x y prop) near is =
    within_sum 1048576 1048576 _ (property_of m prop) (near_point x y is.0 is.1) (property_within m prop near)
shift_within m (node.Scroll parent sid vw vh cw ch) near is =
    let at = stored m.scrolls sid in
    record {
      left = omega (arith, ints, clamped_high at.x vw cw, is);
      right = omega (arith, ints, clamped_low at.x vw cw);
      top = omega (arith, ints, clamped_high at.y vh ch, is);
      bottom = omega (arith, ints, clamped_low at.y vh ch);
    }

-- moved by each of these nodes
pub moved_within : (m : MovesModel) (at : Point) (far : ℕ) (ns : List Node) → AreNearMoves m → All IsNode ns → IsWithin far at
    → IsWithin (far + 2097152 * length ns) (fold (λ p n. point_sum p (shift_of m n)) at ns)
moved_within m at far [] near are h = within_more far (far + 2097152 * 0) at (omega arith) h
moved_within m at far (n ∷ ns) near are h =
    let next = point_sum at (shift_of m n) in
    let here : IsWithin (far + 2097152) next = within_sum far 2097152 at (shift_of m n) h (shift_within m n near (All-head IsNode n ns are)) in
    within_more (far + 2097152 + 2097152 * length ns) (far + 2097152 * length (n ∷ ns)) _ (omega arith) (moved_within m next (far + 2097152) ns near (All-tail IsNode n ns are) here)

pub sum_fits : (m : MovesModel) (p : Point) (n : Node) → AreNearMoves m → IsNode n → IsOffset p → IsPoint (point_sum p (shift_of m n))
sum_fits m p n near is at =
    let by = shift_within m n near is in
    record { across = fits (p.x +ℤ (shift_of m n).x) (omega (arith, ints, at.left, by.left)) (omega (arith, ints, at.right, by.right)); down = fits (p.y +ℤ (shift_of m n).y) (omega (arith, ints, at.top, by.top)) (omega (arith, ints, at.bottom, by.bottom)) }
  where
    fits : (z : ℤ) → neg_ℤ (pos (2 ^ 30)) ≤ℤ z → z ≤ℤ pos (2 ^ 30) → FitsSigned w32 z
    fits z f g = search (rules, ints)

pub sum_fits_by : (m : MovesModel) (p own : Point) (n : Node) → AreNearMoves m → IsNode n → IsOffset p → own ≡ shift_of m n → IsPoint (point_sum p own)
sum_fits_by m p own n near is at e = subst (λ (q : Point). IsPoint (point_sum p q)) (sym e) (sum_fits m p n near is at)
