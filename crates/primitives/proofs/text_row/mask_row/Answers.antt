use Rattle.std.proofs.Common.{ℕ, ℤ, ◌≡◌, ◌<◌, ◌^◌, pos, ◌≤ℤ◌, ◌<ℤ◌, ◌+ℤ◌, ◌-ℤ◌, ap, ◌∙◌, arith, to_z, of_z, w32, w64, length, get_or, sym, subst, T, not, unsigned_abs, Some, rules}
use mir.Val.{SFits}
use Rattle.std.specs.Int.Signed.{lt_z_yes, lt_z_no, le_z_yes}
use Rattle.std.proofs.lemmas.Int.{ints, clamps, to_z-of_z}
use Rattle.blend_rules.specs.Colour.{product}
use Rattle.blend_rules.specs.Planes.{channel}
use Rattle.span_kernels.specs.Bytes.{over_byte}
use Rattle.primitives.specs.Colours.{mask_coverage}
use Rattle.primitives.proofs.Rows.{IsLaid, channel_byte, row_beside, coverage_beside, laid_row, le_no}
use Rattle.primitives.proofs.text_row.mask_row.Goals as goal
use Rattle.primitives.proofs.text_row.mask_row.Goals.{then-row-lt0-via-then-row-lt0, then-row-lt0-via-else-row-lt0+then-h-row}

pub returns-then-row-lt0 : goal.returns-then-row-lt0
returns-then-row-lt0 c i lt =
    let fits_y = c.ranges.y in
    let fits_at : SFits w32 c.args.at.y = search rules in
    let fits_row : SFits w64 c.distance-row.result = search rules in
    let row = to_z-of_z w64 c.distance-row.result fits_row ∙ (simp to_z-of_z at c.distance-row.ensures) in
    let x : ℤ = c.args.x0 +ℤ pos i -ℤ c.args.at.x in
    let z : ℤ = c.args.y -ℤ c.args.at.y in
    let mask = c.args.mask.now in
    let byte : get_or c.args.out.now i 0 < 2 ^ 8 = search rules in
    row_beside (Some mask) (channel c.args.p c.args.colour) c.args.colour.a x z (get_or c.args.out.now i 0) (channel_byte c.args.p c.args.colour c.requires) c.requires.byte byte
    (coverage_beside mask x z (λ left right top bottom. elim c.then-row-lt0.branch [
      | then-row-lt0-via-then-row-lt0 w ↦ let low : to_z w64 (of_z w64 c.distance-row.result) <ℤ pos 0 = lt_z_yes (subst T (sym w.if-row-lt0.true) tt) in omega (arith, ints)
      | then-row-lt0-via-else-row-lt0+then-h-row w ↦ let high : to_z w64 w.h.result ≤ℤ to_z w64 (of_z w64 c.distance-row.result) = le_z_yes (subst T (sym w.if-h-row.true) tt) in let h = w.h.ensures.value in omega (arith, ints)
    ]))

pub returns : goal.returns
returns c i lt =
    let fits_y = c.ranges.y in
    let fits_x0 = c.ranges.x0 in
    let fits_at : SFits w32 c.args.at.y = search rules in
    let fits_at_x : SFits w32 c.args.at.x = search rules in
    let fits_row : SFits w64 c.distance-row.result = search rules in
    let fits_start : SFits w64 c.distance.result = search rules in
    let mask = c.args.mask.now in
    let out = c.args.out.now in
    let new = c.over_part.new.out in
    let colour = c.args.colour in
    let row : to_z w64 (of_z w64 c.distance-row.result) ≡ c.args.y -ℤ c.args.at.y = to_z-of_z w64 c.distance-row.result fits_row ∙ (simp to_z-of_z at c.distance-row.ensures) in
    let start : to_z w64 (of_z w64 c.distance.result) ≡ c.args.at.x -ℤ c.args.x0 = to_z-of_z w64 c.distance.result fits_start ∙ (simp to_z-of_z at c.distance.ensures) in
    let low : pos 0 ≤ℤ to_z w64 (of_z w64 c.distance-row.result) = lt_z_no (subst (λ t. T (not t)) (sym c.if-row-lt0.false) tt) in
    let high : to_z w64 (of_z w64 c.distance-row.result) <ℤ to_z w64 c.h.result = le_no (to_z w64 c.h.result) (to_z w64 (of_z w64 c.distance-row.result)) c.if-h-row.false in
    let h = c.h.ensures.value in
    let r : ℕ = unsigned_abs (to_z w64 (of_z w64 c.distance-row.result)) in
    let laid : IsLaid c.channel.result colour.a (c.args.at.x -ℤ c.args.x0) c.row.result.now out new (length out) =
    subst (λ (z : ℤ). IsLaid c.channel.result colour.a z c.row.result.now out new (length out)) start (record { inside = c.over_part.ensures.inside; beside = c.over_part.ensures.beside }) in
    let byte : c.channel.result < 2 ^ 8 = search rules in
    let bytes : (k : ℕ) → get_or out k 0 < 2 ^ 8 = λ k. search rules in
    let long = c.over_part.auto.out in
    let x : ℤ = c.args.x0 +ℤ pos i -ℤ c.args.at.x in
    let z : ℤ = c.args.y -ℤ c.args.at.y in
    let share : ℕ = mask_coverage (Some mask) x z in
    laid_row mask c.channel.result colour.a c.args.x0 c.args.at.x z r c.row.result.now out new (length out) i byte c.requires.byte bytes (omega (arith, ints, clamps)) (omega (arith, ints, clamps)) c.row.ensures.len c.row.ensures.bytes laid (omega arith)
    ∙ ap (λ (s : ℕ). over_byte (product colour.a share) (product s share) (get_or out i 0)) c.channel.ensures
