use Rattle.std.proofs.Common.{arith, w32, w64, rules}
use mir.Val.{SFits}
use Rattle.std.proofs.lemmas.Int.{ints, to_z-of_z}
use Rattle.primitives.proofs.Rows.{IsIndexOf, index_order}
use Rattle.primitives.proofs.row.columns_in.Goals as goal

pub returns-clause-ordered : goal.returns-clause-ordered
returns-clause-ordered c =
    let fits : SFits w32 c.args.x0 = c.ranges.x0 in
    let fits_left : SFits w32 c.x0.result = search rules in
    let fits_right : SFits w32 c.x1.result = search rules in
    let fits_d : SFits w64 c.distance.result = search rules in
    let fits_e : SFits w64 c.distance-2.result = search rules in
    let d = simp to_z-of_z at c.distance.ensures in
    let e = simp to_z-of_z at c.distance-2.ensures in
    let a = simp to_z-of_z at c.index_of-from.ensures in
    let b = simp to_z-of_z at c.index_of-to.ensures in
    let left = c.x0.ensures.value in
    let right = c.x1.ensures.value in
    let across = c.x0.ensures.rect.across in
    let from : IsIndexOf c.distance.result c.args.len c.index_of-from.result = record { within = a.within; before = a.before; after = a.after; none = a.none; exact = a.exact } in
    let to : IsIndexOf c.distance-2.result c.args.len c.index_of-to.result = record { within = b.within; before = b.before; after = b.after; none = b.none; exact = b.exact } in
    index_order c.distance.result c.distance-2.result c.args.len c.index_of-from.result c.index_of-to.result (omega (arith, ints)) from to

pub returns-clause-before : goal.returns-clause-before
returns-clause-before c k lt =
    let fits : SFits w32 c.args.x0 = c.ranges.x0 in
    let fits_left : SFits w32 c.x0.result = search rules in
    let fits_d : SFits w64 c.distance.result = search rules in
    let d = simp to_z-of_z at c.distance.ensures in
    let left = c.x0.ensures.value in
    let z = simp to_z-of_z at (c.index_of-from.ensures.before k lt) in
    omega (arith, ints)

pub returns-clause-left : goal.returns-clause-left
returns-clause-left c k low lt =
    let fits : SFits w32 c.args.x0 = c.ranges.x0 in
    let fits_left : SFits w32 c.x0.result = search rules in
    let fits_d : SFits w64 c.distance.result = search rules in
    let d = simp to_z-of_z at c.distance.ensures in
    let left = c.x0.ensures.value in
    let within = c.index_of-to.ensures.within in
    let z = simp to_z-of_z at (c.index_of-from.ensures.after k low (omega arith)) in
    omega (arith, ints)

pub returns-clause-right : goal.returns-clause-right
returns-clause-right c k lt =
    let fits : SFits w32 c.args.x0 = c.ranges.x0 in
    let fits_right : SFits w32 c.x1.result = search rules in
    let fits_d : SFits w64 c.distance-2.result = search rules in
    let d = simp to_z-of_z at c.distance-2.ensures in
    let right = c.x1.ensures.value in
    let z = simp to_z-of_z at (c.index_of-to.ensures.before k lt) in
    omega (arith, ints)

pub returns-clause-after : goal.returns-clause-after
returns-clause-after c k low lt =
    let fits : SFits w32 c.args.x0 = c.ranges.x0 in
    let fits_right : SFits w32 c.x1.result = search rules in
    let fits_d : SFits w64 c.distance-2.result = search rules in
    let d = simp to_z-of_z at c.distance-2.ensures in
    let right = c.x1.ensures.value in
    let z = simp to_z-of_z at (c.index_of-to.ensures.after k low lt) in
    omega (arith, ints)
