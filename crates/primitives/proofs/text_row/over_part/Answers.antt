use Rattle.std.proofs.Common.{arith, length}
use Rattle.std.proofs.lemmas.Int.{ints, to_z-of_z}
use Rattle.primitives.proofs.Rows.{IsIndexOf, IsLaid, laid_from}
use Rattle.primitives.proofs.text_row.over_part.Goals as goal

pub returns-clause-inside : goal.returns-clause-inside
returns-clause-inside c =
    let fits = c.ranges.start in
    let low = c.requires.low in
    let a = simp to_z-of_z at c.index_of-from.ensures in
    let b = c.index_of-first.ensures in
    let from : IsIndexOf c.args.start (length c.args.out.now) c.index_of-from.result = record { within = a.within; before = a.before; after = a.after; none = a.none; exact = a.exact } in
    let first : IsIndexOf _ (length c.args.mask.now) c.index_of-first.result = record { within = b.within; before = b.before; after = b.after; none = b.none; exact = b.exact } in
    let o = c.over_from.ensures in
    let laid : IsLaid c.args.s c.args.sa c.args.start c.args.mask.now c.args.out.now c.over_from.new.out (length c.args.out.now) =
    laid_from c.args.s c.args.sa c.args.start _ c.args.mask.now c.args.out.now c.over_from.new.out (length c.args.out.now) c.index_of-from.result c.index_of-first.result c.min-count.result from first (omega (arith, ints)) c.min-count.ensures o.inside o.before o.after in
    laid.inside
