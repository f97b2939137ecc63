use Rattle.std.proofs.Common.{◌∙◌, ◌+◌, ◌%◌, ap₂, ℕ, w32, rules}
use mir.Val.{SFits}
use Rattle.std.proofs.lemmas.Int.{to_z-of_z}
use Rattle.primitives.proofs.Rows.{repeated_byte}
use Rattle.primitives.proofs.image_row.image_row.Goals as goal

pub returns : goal.returns
returns c i lt =
    let fits_x0 = c.ranges.x0 in
    let fits_y = c.ranges.y in
    let fits_left : SFits w32 c.x0.result = search rules in
    let fits_top : SFits w32 c.y0.result = search rules in
    let across = rw c.x0.ensures.value at (simp to_z-of_z at c.pixels_before.ensures.value) in
    let down = rw c.y0.ensures.value at (simp to_z-of_z at c.pixels_before-2.ensures.value) in
    c.copy_repeated.ensures i lt
    ∙ repeated_byte c.args.image.now c.args.p c.args.rect c.args.u c.args.v c.args.x0 c.args.y i _ _ c.row.result.now c.requires.left c.w.ensures.image.wide.some c.row.ensures.len
    (ap₂ (λ (n w : ℕ). (n + c.args.u) % w) across c.w.ensures.value) (ap₂ (λ (n h : ℕ). (n + c.args.v) % h) down c.h.ensures) c.row.ensures.bytes
