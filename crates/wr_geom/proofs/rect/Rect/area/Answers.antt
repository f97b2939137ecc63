use Rattle.std.proofs.Common.{arith, ◌≡◌, ◌-ℤ◌, w32, to_z, of_z}
use Rattle.std.proofs.lemmas.Int.{ints}
use Rattle.wr_geom.specs.Bounds.{IsRect}
use Rattle.wr_geom.proofs.Points.{area_none}
use Rattle.wr_geom.proofs.rect.Rect.area.Goals as goal

pub returns-clause-value : goal.returns-clause-value
returns-clause-value c =
    let i = c.self.inside in
    let across : to_z w32 (of_z w32 (to_z w32 (of_z w32 i.x1) -ℤ to_z w32 (of_z w32 i.x0))) ≡ i.x1 -ℤ i.x0 = omega (arith, ints) in
    let down : to_z w32 (of_z w32 (to_z w32 (of_z w32 i.y1) -ℤ to_z w32 (of_z w32 i.y0))) ≡ i.y1 -ℤ i.y0 = omega (arith, ints) in
    rw (← c.self.view_is, across, down)

pub returns-clause-none : goal.returns-clause-none
returns-clause-none c =
    let ok : IsRect c.args.self = rw (← c.self.view_is) c.self.invariant in
    rw (returns-clause-value c) (area_none c.args.self ok)
