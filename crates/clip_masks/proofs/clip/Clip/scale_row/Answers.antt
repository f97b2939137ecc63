use Rattle.std.proofs.Common.{arith, rules, ◌≡◌, ◌<◌, ◌^◌, ℕ, length, get_or, to_z, of_z, w32}
use Rattle.std.proofs.lemmas.Int.{ints, to_z-of_z}
use Rattle.clip_masks.proofs.Rows.{IsIndexOf, index_order, index_range, between_range, row_inwards, row_outwards}
use Rattle.clip_masks.proofs.clip.Clip.scale_row.Goals as goal

pub scale_part-requires-clause-ordered : goal.scale_part-requires-clause-ordered
scale_part-requires-clause-ordered c =
    let left : IsIndexOf c.spans-spans.result.left c.args.x0 (length c.args.out.now) c.index_of-left.result = record { within = c.index_of-left.ensures.within; before = λ k h. let z = c.index_of-left.ensures.before k h in omega (arith, ints); after = λ k h l. let z = c.index_of-left.ensures.after k h l in omega (arith, ints) } in
    let from : IsIndexOf c.spans-spans.result.from c.args.x0 (length c.args.out.now) c.index_of-from.result = record { within = c.index_of-from.ensures.within; before = λ k h. let z = c.index_of-from.ensures.before k h in omega (arith, ints); after = λ k h l. let z = c.index_of-from.ensures.after k h l in omega (arith, ints) } in
    index_order c.spans-spans.result.left c.spans-spans.result.from c.args.x0 (length c.args.out.now) c.index_of-left.result c.index_of-from.result c.spans-spans.ensures.first left from

pub scale_part-requires-2-clause-ordered : goal.scale_part-requires-2-clause-ordered
scale_part-requires-2-clause-ordered c =
    let to : IsIndexOf c.spans-spans.result.to c.args.x0 (length c.args.out.now) c.index_of-to.result = record { within = c.index_of-to.ensures.within; before = λ k h. let z = c.index_of-to.ensures.before k h in omega (arith, ints); after = λ k h l. let z = c.index_of-to.ensures.after k h l in omega (arith, ints) } in
    let right : IsIndexOf c.spans-spans.result.right c.args.x0 (length c.args.out.now) c.index_of-right.result = record { within = c.index_of-right.ensures.within; before = λ k h. let z = c.index_of-right.ensures.before k h in omega (arith, ints); after = λ k h l. let z = c.index_of-right.ensures.after k h l in omega (arith, ints) } in
    index_order c.spans-spans.result.to c.spans-spans.result.right c.args.x0 (length c.args.out.now) c.index_of-to.result c.index_of-right.result c.spans-spans.ensures.third to right

pub clear_part-requires-clause-ordered : goal.clear_part-requires-clause-ordered
clear_part-requires-clause-ordered c =
    let from : IsIndexOf c.spans-spans.result.from c.args.x0 (length c.args.out.now) c.index_of-from.result = record { within = c.index_of-from.ensures.within; before = λ k h. let z = c.index_of-from.ensures.before k h in omega (arith, ints); after = λ k h l. let z = c.index_of-from.ensures.after k h l in omega (arith, ints) } in
    let to : IsIndexOf c.spans-spans.result.to c.args.x0 (length c.args.out.now) c.index_of-to.result = record { within = c.index_of-to.ensures.within; before = λ k h. let z = c.index_of-to.ensures.before k h in omega (arith, ints); after = λ k h l. let z = c.index_of-to.ensures.after k h l in omega (arith, ints) } in
    index_order c.spans-spans.result.from c.spans-spans.result.to c.args.x0 (length c.args.out.now) c.index_of-from.result c.index_of-to.result c.spans-spans.ensures.second from to

pub scale_part-requires-clause-range : goal.scale_part-requires-clause-range
scale_part-requires-clause-range c k h l =
    let s = c.spans-spans.result in
    let is = c.spans-spans.ensures in
    let same : to_z w32 (of_z w32 c.args.x0) ≡ c.args.x0 = omega (arith, ints) in
    let left : IsIndexOf c.spans-spans.result.left c.args.x0 (length c.args.out.now) c.index_of-left.result = record { within = c.index_of-left.ensures.within; before = λ k h. let z = c.index_of-left.ensures.before k h in omega (arith, ints); after = λ k h l. let z = c.index_of-left.ensures.after k h l in omega (arith, ints) } in
    let from : IsIndexOf c.spans-spans.result.from c.args.x0 (length c.args.out.now) c.index_of-from.result = record { within = c.index_of-from.ensures.within; before = λ k h. let z = c.index_of-from.ensures.before k h in omega (arith, ints); after = λ k h l. let z = c.index_of-from.ensures.after k h l in omega (arith, ints) } in
    rw same (index_range s.left s.from c.args.x0 (length c.args.out.now) c.index_of-left.result c.index_of-from.result k
    (between_range s.left s.left s.right is.start is.end (omega (arith, ints)) (omega (arith, ints))) (between_range s.left s.from s.right is.start is.end (omega (arith, ints)) (omega (arith, ints))) left from h l)

pub scale_part-requires-2-clause-range : goal.scale_part-requires-2-clause-range
scale_part-requires-2-clause-range c k h l =
    let s = c.spans-spans.result in
    let is = c.spans-spans.ensures in
    let same : to_z w32 (of_z w32 c.args.x0) ≡ c.args.x0 = omega (arith, ints) in
    let to : IsIndexOf c.spans-spans.result.to c.args.x0 (length c.args.out.now) c.index_of-to.result = record { within = c.index_of-to.ensures.within; before = λ k h. let z = c.index_of-to.ensures.before k h in omega (arith, ints); after = λ k h l. let z = c.index_of-to.ensures.after k h l in omega (arith, ints) } in
    let right : IsIndexOf c.spans-spans.result.right c.args.x0 (length c.args.out.now) c.index_of-right.result = record { within = c.index_of-right.ensures.within; before = λ k h. let z = c.index_of-right.ensures.before k h in omega (arith, ints); after = λ k h l. let z = c.index_of-right.ensures.after k h l in omega (arith, ints) } in
    rw same (index_range s.to s.right c.args.x0 (length c.args.out.now) c.index_of-to.result c.index_of-right.result k
    (between_range s.left s.to s.right is.start is.end (omega (arith, ints)) (omega (arith, ints))) (between_range s.left s.right s.right is.start is.end (omega (arith, ints)) (omega (arith, ints))) to right h l)

pub returns-then-self : goal.returns-then-self
returns-then-self c k l =
    let fits_x0 = c.ranges.x0 in
    let fits_y = c.ranges.y in
    let bytes : (i : ℕ) → get_or c.args.out.now i 0 < 2 ^ 8 = λ i. search rules in
    let is = simp to_z-of_z at c.spans-spans.ensures in
    let first = simp to_z-of_z at c.scale_part.ensures in
    let second = simp to_z-of_z at c.scale_part-2.ensures in
    let left : IsIndexOf c.spans-spans.result.left c.args.x0 (length c.args.out.now) c.index_of-left.result = record { within = c.index_of-left.ensures.within; before = λ k h. let z = c.index_of-left.ensures.before k h in omega (arith, ints); after = λ k h l. let z = c.index_of-left.ensures.after k h l in omega (arith, ints) } in
    let from : IsIndexOf c.spans-spans.result.from c.args.x0 (length c.args.out.now) c.index_of-from.result = record { within = c.index_of-from.ensures.within; before = λ k h. let z = c.index_of-from.ensures.before k h in omega (arith, ints); after = λ k h l. let z = c.index_of-from.ensures.after k h l in omega (arith, ints) } in
    let to : IsIndexOf c.spans-spans.result.to c.args.x0 (length c.args.out.now) c.index_of-to.result = record { within = c.index_of-to.ensures.within; before = λ k h. let z = c.index_of-to.ensures.before k h in omega (arith, ints); after = λ k h l. let z = c.index_of-to.ensures.after k h l in omega (arith, ints) } in
    let right : IsIndexOf c.spans-spans.result.right c.args.x0 (length c.args.out.now) c.index_of-right.result = record { within = c.index_of-right.ensures.within; before = λ k h. let z = c.index_of-right.ensures.before k h in omega (arith, ints); after = λ k h l. let z = c.index_of-right.ensures.after k h l in omega (arith, ints) } in
    row_outwards c.args.self.now c.args.y c.args.x0 c.spans-spans.result (length c.args.out.now) _ _ _ _ c.args.out.now c.scale_part.new.out c.scale_part-2.new.out c.clear_part.new.out c.if-self.true is (record { left = left; from = from; to = to; right = right }) bytes
    (record { scaled = first.scaled; below = first.below; ahead = first.above })
    (record { scaled = second.scaled; below = second.below; ahead = second.above })
    (record { scaled = c.clear_part.ensures.cleared; below = c.clear_part.ensures.below; ahead = c.clear_part.ensures.above })
    k (omega arith)

pub returns-else-self : goal.returns-else-self
returns-else-self c k l =
    let fits_x0 = c.ranges.x0 in
    let fits_y = c.ranges.y in
    let bytes : (i : ℕ) → get_or c.args.out.now i 0 < 2 ^ 8 = λ i. search rules in
    let is = simp to_z-of_z at c.spans-spans.ensures in
    let first = simp to_z-of_z at c.scale_part.ensures in
    let second = simp to_z-of_z at c.scale_part-2.ensures in
    let left : IsIndexOf c.spans-spans.result.left c.args.x0 (length c.args.out.now) c.index_of-left.result = record { within = c.index_of-left.ensures.within; before = λ k h. let z = c.index_of-left.ensures.before k h in omega (arith, ints); after = λ k h l. let z = c.index_of-left.ensures.after k h l in omega (arith, ints) } in
    let from : IsIndexOf c.spans-spans.result.from c.args.x0 (length c.args.out.now) c.index_of-from.result = record { within = c.index_of-from.ensures.within; before = λ k h. let z = c.index_of-from.ensures.before k h in omega (arith, ints); after = λ k h l. let z = c.index_of-from.ensures.after k h l in omega (arith, ints) } in
    let to : IsIndexOf c.spans-spans.result.to c.args.x0 (length c.args.out.now) c.index_of-to.result = record { within = c.index_of-to.ensures.within; before = λ k h. let z = c.index_of-to.ensures.before k h in omega (arith, ints); after = λ k h l. let z = c.index_of-to.ensures.after k h l in omega (arith, ints) } in
    let right : IsIndexOf c.spans-spans.result.right c.args.x0 (length c.args.out.now) c.index_of-right.result = record { within = c.index_of-right.ensures.within; before = λ k h. let z = c.index_of-right.ensures.before k h in omega (arith, ints); after = λ k h l. let z = c.index_of-right.ensures.after k h l in omega (arith, ints) } in
    row_inwards c.args.self.now c.args.y c.args.x0 c.spans-spans.result (length c.args.out.now) _ _ _ _ c.args.out.now c.scale_part.new.out c.scale_part-2.new.out c.clear_part-else-self.new.out c.clear_part-else-self-2.new.out c.if-self.false is (record { left = left; from = from; to = to; right = right }) bytes
    (record { scaled = first.scaled; below = first.below; ahead = first.above })
    (record { scaled = second.scaled; below = second.below; ahead = second.above })
    (record { scaled = c.clear_part-else-self.ensures.cleared; below = c.clear_part-else-self.ensures.below; ahead = c.clear_part-else-self.ensures.above })
    (record { scaled = c.clear_part-else-self-2.ensures.cleared; below = c.clear_part-else-self-2.ensures.below; ahead = c.clear_part-else-self-2.ensures.above })
    k (omega arith)
