use Rattle.std.proofs.Common.{get_or, nat_le, ◌*◌, ◌-◌}
use Rattle.blend_rules.specs.Colour.{product}
use Rattle.span_kernels.proofs.Bytes.{contrast_is, half_is}
use Rattle.span_kernels.proofs.Sixteen.{lanes_by}
use Rattle.span_kernels.proofs.modes.contrast.Goals as goal

pub returns : goal.returns
returns c =
    lanes_by _ c.held.ensures (λ k lt.
    let sa = get_or c.args.sa k 0 in
    let da = get_or c.args.da k 0 in
    let s = get_or c.args.s k 0 in
    let d = get_or c.args.d k 0 in
    let x = get_or c.args.x k 0 in
    let xa = get_or c.args.xa k 0 in
    let left = c.excess_lanes-left.ensures.each k lt in
    let both = c.product_lanes-both.ensures.each k lt in
    let dark = c.excess_lanes.ensures.each k lt in
    let light = c.excess_lanes-2.ensures.each k lt in
    let rest = c.product_lanes-rest.ensures.each k lt in
    let alphas = c.product_lanes.ensures.each k lt in
    let once = c.choose_lanes-once.ensures.each k lt in
    let none = c.none.ensures.each k lt in
    let again = c.choose_lanes-again.ensures.each k lt in
    let none_2 = c.none-2.ensures.each k lt in
    let twice = c.choose_lanes-twice.ensures.each k lt in
    let first = c.product_lanes-2.ensures.each k lt in
    let second = c.product_lanes-3.ensures.each k lt in
    let less = c.four_lanes-less.ensures.each k lt in
    let more = c.four_lanes.ensures.each k lt in
    let half = half_is x xa (c.requires.tested k lt) in
    let is = contrast_is (nat_le (2 * x) xa) s d (product s d) (product sa da) (product s da) (product d sa) (product (da - d) (sa - s)) in
    cc)
