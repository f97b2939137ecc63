-- Radii and widths that fit: the tests and what they mean.
use Rattle.std.proofs.Common.{◌≡◌, ℕ, ◌+◌, ◌≤◌, true, ◌&&◌, arith}
use Rattle.std.specs.Prelude.{nat_le}
use Rattle.std.proofs.lemmas.Bool.{and_parts, and_from}
use Rattle.wr_geom.specs.Bounds.{Bounds}
use Rattle.wr_geom.specs.declared.sides.Radii.{Radii}
use Rattle.wr_geom.specs.declared.sides.Widths.{Widths}
use Rattle.wr_geom.specs.Sides.{RadiiFit, WidthsFit, radii_fit, widths_fit, width_of, height_of}

at_most : (m n : ℕ) → nat_le m n ≡ true → m ≤ n
at_most m n h = grind (arith)

test_of : (m n : ℕ) → m ≤ n → nat_le m n ≡ true
test_of m n h = grind (arith)

pub radii_fit-true : (b : Bounds) (r : Radii) → radii_fit b r ≡ true → RadiiFit b r
unfolding radii_fit
radii_fit-true b r h =
    let w = width_of b in
    let v = height_of b in
    let top = nat_le (r.tl.0 + r.tr.0) w in
    let bottom = nat_le (r.bl.0 + r.br.0) w in
    let left = nat_le (r.tl.1 + r.bl.1) v in
    let right = nat_le (r.tr.1 + r.br.1) v in
    let k = and_parts (top && bottom && left) right h in
    let j = and_parts (top && bottom) left k.0 in
    let i = and_parts top bottom j.0 in
    record { top = at_most _ _ i.0; bottom = at_most _ _ i.1; left = at_most _ _ j.1; right = at_most _ _ k.1 }

pub radii_fit-of : (b : Bounds) (r : Radii) → RadiiFit b r → radii_fit b r ≡ true
unfolding radii_fit
radii_fit-of b r h = and_from _ _ (and_from _ _ (and_from _ _ (test_of _ _ h.top) (test_of _ _ h.bottom)) (test_of _ _ h.left)) (test_of _ _ h.right)

pub widths_fit-true : (b : Bounds) (w : Widths) → widths_fit b w ≡ true → WidthsFit b w
unfolding widths_fit
widths_fit-true b w h =
    let k = and_parts (nat_le (w.left + w.right) (width_of b)) (nat_le (w.top + w.bottom) (height_of b)) h in
    record { across = at_most _ _ k.0; down = at_most _ _ k.1 }

pub widths_fit-of : (b : Bounds) (w : Widths) → WidthsFit b w → widths_fit b w ≡ true
unfolding widths_fit
widths_fit-of b w h = and_from _ _ (test_of _ _ h.across) (test_of _ _ h.down)

-- the laws above, by one name
pub ruleset fit_tests = (radii_fit-true, radii_fit-of, widths_fit-true, widths_fit-of)
