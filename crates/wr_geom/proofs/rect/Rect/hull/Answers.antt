use Rattle.std.proofs.Common.{arith}
use Rattle.std.proofs.lemmas.Int.{ints, clamps}
use Rattle.wr_geom.proofs.Points.{same_bounds, hull_rect}
use Rattle.wr_geom.proofs.rect.Rect.hull.Goals as goal

pub returns : goal.returns
returns c = rw (← c.self.view_is, ← c.o.view_is) (same_bounds _ _ (omega (arith, ints, clamps)) (omega (arith, ints, clamps)) (omega (arith, ints, clamps)) (omega (arith, ints, clamps)))

pub invariant_of-result : goal.invariant_of-result
invariant_of-result c = rw (returns c) (hull_rect c.args.self c.args.o (rw (← c.self.view_is) c.self.invariant) (rw (← c.o.view_is) c.o.invariant))
