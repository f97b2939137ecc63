use Rattle.std.proofs.Common.{sym, ◌∙◌}
use Rattle.std.proofs.lemmas.Int.{to_z-of_z}
use Rattle.clip_masks.proofs.Points.{has_pixel}
use Rattle.primitives.proofs.Colours.{colour_outside, colour_inside}
use Rattle.primitives.proofs.colour.primitive_colour.Goals as goal

pub returns-then-not-contains : goal.returns-then-not-contains
returns-then-not-contains c =
    let fits_x = c.ranges.x in
    let fits_y = c.ranges.y in
    let miss = simp to_z-of_z at (rw c.rect-rect.ensures.value at c.if-not-contains.ensures) in
    sym (colour_outside c.args.store.now c.args.prim.now c.args.x c.args.y (sym miss))

pub kind_colour-requires-clause-pixel : goal.kind_colour-requires-clause-pixel
kind_colour-requires-clause-pixel c = has_pixel _ _ _ (sym c.if-not-contains.ensures)

pub returns : goal.returns
returns c =
    let fits_x = c.ranges.x in
    let fits_y = c.ranges.y in
    let hit = simp to_z-of_z at (rw c.rect-rect.ensures.value at c.if-not-contains.ensures) in
    (simp to_z-of_z at (rw (c.rect-rect.ensures.value, c.kind.ensures.value) at c.kind_colour.ensures))
    ∙ sym (colour_inside c.args.store.now c.args.prim.now c.args.x c.args.y (sym hit))
