use Rattle.std.proofs.Common.{ℕ, ℤ, pos, ◌+ℤ◌, ap, ◌∙◌, arith, to_z, of_z, w32, rules}
use mir.Val.{SFits}
use Rattle.std.proofs.lemmas.Int.{to_z-of_z}
use Rattle.blend_rules.specs.declared.colour.Px.{Px}
use Rattle.blend_rules.specs.Planes.{channel}
use Rattle.primitives.specs.Borders.{border_colour}
use Rattle.primitives.proofs.Rows.{one_byte_more, pixel_same}
use Rattle.primitives.proofs.row.border_row.Goals as goal

pub border_colour-requires-clause-pixel : goal.border_colour-requires-clause-pixel
border_colour-requires-clause-pixel c =
    let fits_x0 = c.ranges.x0 in
    let fits_y = c.ranges.y in
    let fits_x : SFits w32 c.pixel_at-x.result = search rules in
    let at = simp to_z-of_z at c.pixel_at-x.ensures in
    pixel_same c.args.rect (to_z-of_z w32 c.pixel_at-x.result fits_x ∙ at) (to_z-of_z w32 c.args.y fits_y) (c.requires.pixels c.loop-k.k (omega arith))

pub loop-k-preserved : goal.loop-k-preserved
loop-k-preserved c =
    let fits_x0 = c.ranges.x0 in
    let fits_x : SFits w32 c.pixel_at-x.result = search rules in
    let y : ℤ = to_z w32 (of_z w32 c.args.y) in
    let at = to_z-of_z w32 c.pixel_at-x.result fits_x ∙ c.pixel_at-x.ensures in
    one_byte_more (λ (i : ℕ). channel c.args.p (border_colour c.args.rect c.args.w c.args.colours c.args.radii (to_z w32 (of_z w32 c.args.x0) +ℤ pos i) y)) c.loop-k.k c.channel.result c.loop-k.out (omega arith)
    (c.channel.ensures ∙ ap (λ (q : Px). channel c.args.p q) (c.border_colour.ensures.value ∙ ap (λ (x : ℤ). border_colour c.args.rect c.args.w c.args.colours c.args.radii x y) at)) c.loop-k.invariant
