use Rattle.std.proofs.Common.{arith, ◌≡◌, ◌+◌, ◌-◌, ◌/◌, ◌≤◌, ℕ, List, take, drop, length, ap, ◌∙◌}
use Rattle.blend_rules.specs.Pixels.{pixels, written}
use Rattle.image_store.specs.Bands.{opaque_count}
use Rattle.image_store.proofs.OpaqueCounts.{opaque_count-le}
use Rattle.image_store.proofs.Weaving.{length-woven}
use Rattle.image_store.proofs.Bands.{woven_written, band_written, band_pixels}
use Rattle.image_store.proofs.band.Band.write.Goals as goal

piece : (at n m : ℕ) (xs ys : List ℕ) → m ≡ opaque_count (take (at + n - at) (drop at xs)) → xs ≡ ys → m ≡ opaque_count (take n (drop at ys))
piece at n m xs ys e f =
    let k : at + n - at ≡ n = omega arith in
    e ∙ ap (λ j. opaque_count (take j (drop at xs))) k ∙ ap (λ l. opaque_count (take n (drop at l))) f

pub overflow_sub-self : goal.overflow_sub-self
overflow_sub-self c =
    let g = piece c.args.at (length c.args.bytes.now / 4) c.count_opaque-gone.result c.deref.result.now c.self.inside.alpha.items c.count_opaque-gone.ensures c.deref.ensures.value in
    let l = opaque_count-le c.args.at (length c.args.bytes.now / 4) c.self.inside.alpha.items in
    omega (arith, g, l, c.self.invariant.counted)

pub invariant_of-self : goal.invariant_of-self
invariant_of-self c =
    let i = c.self.inside in
    let n = c.split_planes-tested.new in
    let e = c.split_planes-tested.ensures in
    band_written c.args.bytes.now c.args.at i.blue.items i.green.items i.red.items i.alpha.items n.b.items n.g.items n.r.items n.a.items e.blue e.green e.red e.alpha
    i.count c.count_opaque-gone.result c.split_planes-tested.result.opaque c.self.invariant e.byte
    (piece c.args.at (length c.args.bytes.now / 4) c.count_opaque-gone.result c.deref.result.now i.alpha.items c.count_opaque-gone.ensures c.deref.ensures.value)
    e.opaque

pub returns-clause-written : goal.returns-clause-written
returns-clause-written c = λ p.
    let i = c.self.inside in
    let n = c.split_planes-tested.new in
    let e = c.split_planes-tested.ensures in
    let room : c.args.at + length c.args.bytes.now / 4 ≤ length i.blue.items = omega (arith, ap length c.self.view_is, length-woven i.blue.items i.green.items i.red.items i.alpha.items) in
    woven_written c.args.bytes.now c.args.at i.blue.items i.green.items i.red.items i.alpha.items n.b.items n.g.items n.r.items n.a.items e.blue e.green e.red e.alpha room p
    ∙ ap (λ t. written t c.args.at (pixels c.args.bytes.now)) c.self.view_is

pub returns-clause-pixels : goal.returns-clause-pixels
returns-clause-pixels c =
    let n = c.split_planes-tested.new in
    band_pixels n.b.items n.g.items n.r.items n.a.items (c.self.inside.count - c.count_opaque-gone.result + c.split_planes-tested.result.opaque) (invariant_of-self c)
