use Rattle.std.proofs.Common.{arith}
use Rattle.std.proofs.lemmas.Int.{ints}
use Rattle.wr_geom.proofs.Points.{same_bounds, shifted_points}
use Rattle.wr_geom.proofs.rect.Rect.shift.Goals as goal

pub invariant_of-result : goal.invariant_of-result
invariant_of-result c =
    let b = c.self.invariant in
    let r = rw (← c.self.view_is) at c.requires in
    record { across = omega (arith, ints); down = omega (arith, ints); in_range = record { left = record { low = omega (arith, ints); high = omega (arith, ints) }; top = record { low = omega (arith, ints); high = omega (arith, ints) }; right = record { low = omega (arith, ints); high = omega (arith, ints) }; bottom = record { low = omega (arith, ints); high = omega (arith, ints) } } }

pub returns-clause-value : goal.returns-clause-value
returns-clause-value c =
    let r = rw (← c.self.view_is) at c.requires in
    rw (← c.self.view_is) (same_bounds _ _ (omega (arith, ints)) (omega (arith, ints)) (omega (arith, ints)) (omega (arith, ints)))

pub returns-clause-points : goal.returns-clause-points
returns-clause-points c x y = rw (returns-clause-value c) (shifted_points c.args.self c.args.by x y)
