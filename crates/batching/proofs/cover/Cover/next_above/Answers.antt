use Rattle.std.proofs.Common.{arith}
use Rattle.batching.proofs.Rows.{length-row}
use Rattle.batching.proofs.cover.Cover.next_above.Goals as goal

pub first_part-requires-clause-inside : goal.first_part-requires-clause-inside
first_part-requires-clause-inside c =
    let size = length-row c.self.inside.width c.self.inside.intervals.items c.args.self.now c.self.view_is in
    rw c.deref.ensures.value (omega (arith, size, c.self.invariant.0.whole, c.requires.inside))
