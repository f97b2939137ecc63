use Rattle.std.proofs.Common.{rules, ◌≡◌, ◌+ℤ◌, ◌-ℤ◌, pos, ℤ, ap, ◌∙◌, w32, to_z, of_z, arith}
use Rattle.std.proofs.lemmas.Int.{ints, to_z-of_z}
use mir.Val.{SFits}
use Rattle.tile_grid.specs.Grids.{tile_of}
use Rattle.tile_grid.proofs.Axes.{part_is}
use Rattle.tile_grid.proofs.Grids.{some_side}
use Rattle.tile_grid.proofs.part.part_of_span.Goals as goal

pub returns-clause-part : goal.returns-clause-part
returns-clause-part c k h =
    let n = c.args.side in
    let ft : SFits w32 c.tile_of-2.result = search rules in
    let fb : SFits w32 c.before-2.result = search rules in
    let fa : SFits w32 c.args.from = search rules in
    let fe : SFits w32 c.args.end = search rules in
    let first : c.tile_of-2.result ≡ tile_of n c.args.from = rw (to_z-of_z w32 c.args.from fa) at c.tile_of-2.ensures.value in
    let end : c.before-2.result ≡ (c.args.end -ℤ pos 1) = rw (to_z-of_z w32 c.args.end fe) at c.before-2.ensures in
    let last : c.tile_of.result ≡ tile_of n (c.args.end -ℤ pos 1) = (rw (to_z-of_z w32 c.before-2.result fb) at c.tile_of.ensures.value) ∙ ap (tile_of n) end in
    let near = c.tile_of.ensures.near in
    let next : to_z w32 (of_z w32 (to_z w32 (of_z w32 c.tile_of.result) +ℤ pos 1)) ≡ (c.tile_of.result +ℤ pos 1) = omega (arith, ints, near.low, near.high) in
    let f = rw (to_z-of_z w32 c.tile_of-2.result ft, first) at c.before-3.ensures.before k h in
    let g = rw (next ∙ ap (λ (z : ℤ). z +ℤ pos 1) last) at c.before-to.ensures.before k h in
    rw c.min-from.ensures (part_is n c.args.from c.args.end (c.args.span.first +ℤ pos k) k c.before-3.result c.before-to.result (some_side n c.requires.side) f g)
