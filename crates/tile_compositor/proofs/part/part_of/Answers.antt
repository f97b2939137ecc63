use Rattle.std.proofs.Common.{arith}
use Rattle.std.proofs.lemmas.Int.{ints}
use Rattle.wr_geom.proofs.Points.{same_bounds}
use Rattle.tile_compositor.proofs.Parts.{edges}
use Rattle.tile_compositor.proofs.part.part_of.Goals as goal

pub overflow_cast-result : goal.overflow_cast-result
overflow_cast-result c =
    let e = edges c.args.planes.now c.args.rect c.requires.points c.requires.inside in
    omega (arith, ints, e.left, e.across, e.right, c.x0.ensures, c.know_planes.ensures.wide)

pub overflow_cast-result-2 : goal.overflow_cast-result-2
overflow_cast-result-2 c =
    let e = edges c.args.planes.now c.args.rect c.requires.points c.requires.inside in
    omega (arith, ints, e.top, e.down, e.bottom, c.y0.ensures, c.know_planes.ensures.high)

pub overflow_cast-result-3 : goal.overflow_cast-result-3
overflow_cast-result-3 c =
    let e = edges c.args.planes.now c.args.rect c.requires.points c.requires.inside in
    omega (arith, ints, e.left, e.across, e.right, c.x1.ensures, c.know_planes.ensures.wide)

pub overflow_cast-result-4 : goal.overflow_cast-result-4
overflow_cast-result-4 c =
    let e = edges c.args.planes.now c.args.rect c.requires.points c.requires.inside in
    omega (arith, ints, e.top, e.down, e.bottom, c.y1.ensures, c.know_planes.ensures.high)

pub returns-clause-bounds : goal.returns-clause-bounds
returns-clause-bounds c =
    let e = edges c.args.planes.now c.args.rect c.requires.points c.requires.inside in
    same_bounds _ c.args.rect
    (omega (arith, ints, e.left, e.across, e.right, c.x0.ensures.value, c.know_planes.ensures.wide))
    (omega (arith, ints, e.top, e.down, e.bottom, c.y0.ensures.value, c.know_planes.ensures.high))
    (omega (arith, ints, e.left, e.across, e.right, c.x1.ensures.value, c.know_planes.ensures.wide))
    (omega (arith, ints, e.top, e.down, e.bottom, c.y1.ensures.value, c.know_planes.ensures.high))

pub returns-clause-part : goal.returns-clause-part
returns-clause-part c =
    let e = edges c.args.planes.now c.args.rect c.requires.points c.requires.inside in
    record {
      across = omega (arith, ints, e.left, e.across, e.right, c.x0.ensures.value, c.x1.ensures.value, c.know_planes.ensures.wide);
      down = omega (arith, ints, e.top, e.down, e.bottom, c.y0.ensures.value, c.y1.ensures.value, c.know_planes.ensures.high);
      right = omega (arith, ints, e.left, e.across, e.right, c.x1.ensures.value, c.know_planes.ensures.wide);
      bottom = omega (arith, ints, e.top, e.down, e.bottom, c.y1.ensures.value, c.know_planes.ensures.high);
    }
