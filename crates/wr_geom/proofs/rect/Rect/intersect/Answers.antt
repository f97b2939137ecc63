use Rattle.std.proofs.Common.{arith, ◌≡◌, ◌<ℤ◌, w32, to_z, of_z, ◌∙◌}
use Rattle.std.proofs.lemmas.Int.{ints, clamps}
use Rattle.std.specs.Int.{int_max, int_min}
use Rattle.wr_geom.specs.Bounds.{Bounds, overlap}
use Rattle.wr_geom.proofs.Points.{same_bounds, overlap_rect, intersection_met, intersection_missed, intersection_points, intersection_apart, HasSides}
use Rattle.wr_geom.proofs.rect.Rect.intersect.Goals as goal

-- the edges are those of the overlap, and both sides are longer than 0
met : (c : goal.Then-y0-y1) → ((let r : Bounds = record { x0 = to_z w32 (of_z w32 c.max-x0.result); y0 = to_z w32 (of_z w32 c.max-y0.result); x1 = to_z w32 (of_z w32 c.min-x1.result); y1 = to_z w32 (of_z w32 c.min-y1.result) } in r) ≡ overlap c.args.self c.args.o) × HasSides (overlap c.args.self c.args.o)
met c =
    let x0 : to_z w32 (of_z w32 c.max-x0.result) ≡ int_max c.self.inside.x0 c.o.inside.x0 = omega (arith, ints, clamps) in
    let y0 : to_z w32 (of_z w32 c.max-y0.result) ≡ int_max c.self.inside.y0 c.o.inside.y0 = omega (arith, ints, clamps) in
    let x1 : to_z w32 (of_z w32 c.min-x1.result) ≡ int_min c.self.inside.x1 c.o.inside.x1 = omega (arith, ints, clamps) in
    let y1 : to_z w32 (of_z w32 c.min-y1.result) ≡ int_min c.self.inside.y1 c.o.inside.y1 = omega (arith, ints, clamps) in
    rw (← c.self.view_is, ← c.o.view_is) (same_bounds _ _ x0 y0 x1 y1, record { across = rw (← x0, ← x1) (grind (arith, ints)); down = rw (← y0, ← y1) (grind (arith, ints)) })

pub returns-then-y0-y1-clause-value : goal.returns-then-y0-y1-clause-value
returns-then-y0-y1-clause-value c = let k = met c in k.0 ∙ intersection_met c.args.self c.args.o k.1

pub invariant_of-result : goal.invariant_of-result
invariant_of-result c =
    let k = met c in
    rw k.0 (overlap_rect c.args.self c.args.o (rw (← c.self.view_is) c.self.invariant) (rw (← c.o.view_is) c.o.invariant) k.1)

pub returns-then-y0-y1-clause-points : goal.returns-then-y0-y1-clause-points
returns-then-y0-y1-clause-points c x y = rw (returns-then-y0-y1-clause-value c) (intersection_points c.args.self c.args.o x y)

pub returns-then-y0-y1-clause-apart : goal.returns-then-y0-y1-clause-apart
returns-then-y0-y1-clause-apart c f = returns-then-y0-y1-clause-value c ∙ intersection_apart c.args.self c.args.o f

pub returns-clause-value : goal.returns-clause-value
returns-clause-value c =
    let x0 : to_z w32 (of_z w32 c.max-x0.result) ≡ int_max c.self.inside.x0 c.o.inside.x0 = omega (arith, ints, clamps) in
    let y0 : to_z w32 (of_z w32 c.max-y0.result) ≡ int_max c.self.inside.y0 c.o.inside.y0 = omega (arith, ints, clamps) in
    let x1 : to_z w32 (of_z w32 c.min-x1.result) ≡ int_min c.self.inside.x1 c.o.inside.x1 = omega (arith, ints, clamps) in
    let y1 : to_z w32 (of_z w32 c.min-y1.result) ≡ int_min c.self.inside.y1 c.o.inside.y1 = omega (arith, ints, clamps) in
    rw (← c.self.view_is, ← c.o.view_is) (intersection_missed _ _ (λ s.
    let h : to_z w32 (of_z w32 c.max-x0.result) <ℤ to_z w32 (of_z w32 c.min-x1.result) = rw (x0, x1) s.across in
    let k : to_z w32 (of_z w32 c.max-y0.result) <ℤ to_z w32 (of_z w32 c.min-y1.result) = rw (y0, y1) s.down in
    grind (arith, ints)))

pub returns-clause-points : goal.returns-clause-points
returns-clause-points c x y = rw (returns-clause-value c) (intersection_points c.args.self c.args.o x y)
