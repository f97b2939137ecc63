use Rattle.std.proofs.Common.{true, false}
use Rattle.wr_geom.proofs.Points.{bound_laws}
use Rattle.wr_geom.proofs.rect.Rect.bound.Goals as goal

pub returns-in-true-true : goal.returns-in-true-true
returns-in-true-true c =
    let k = bound_laws c.args.self c.args.o false false c.in-true-true.ensures.value c.in-true-true.ensures'.value in
    record { value = k.0; first = k.1.first; second = k.1.second; least = k.1.least; empty = k.1.empty }

pub returns-in-true-false : goal.returns-in-true-false
returns-in-true-false c =
    let k = bound_laws c.args.self c.args.o false true c.in-true-false.ensures.value c.in-true-false.ensures'.value in
    record { value = k.0; first = k.1.first; second = k.1.second; least = k.1.least; empty = k.1.empty }

pub returns-in-false-true : goal.returns-in-false-true
returns-in-false-true c =
    let k = bound_laws c.args.self c.args.o true false c.in-false-true.ensures.value c.in-false-true.ensures'.value in
    record { value = k.0; first = k.1.first; second = k.1.second; least = k.1.least; empty = k.1.empty }

pub returns-in-false-false : goal.returns-in-false-false
returns-in-false-false c =
    let k = bound_laws c.args.self c.args.o true true c.in-false-false.ensures.value c.in-false-false.ensures'.value in
    rw c.hull.ensures (record { value = k.0; first = k.1.first; second = k.1.second; least = k.1.least; empty = k.1.empty })
