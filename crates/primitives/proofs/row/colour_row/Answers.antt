use Rattle.std.proofs.Common.{◌≡◌, ◌≤ℤ◌, ◌<ℤ◌, pos, ◌+ℤ◌, ap, ◌∙◌, arith, to_z, of_z, w32, inl, inr, length, get_or, sym, subst, T, not, refl, rules}
use mir.Val.{SFits}
use Rattle.std.specs.Int.Signed.{lt_z_yes, lt_z_no, le_z_yes}
use Rattle.std.proofs.lemmas.Int.{ints, to_z-of_z}
use Rattle.std.proofs.lemmas.List.{get_or-replicate}
use Rattle.wr_geom.specs.Bounds.{Bounds}
use Rattle.primitives.proofs.Rows.{byte_above, row_is, le_no}
use Rattle.primitives.proofs.row.colour_row.Goals as goal
use Rattle.primitives.proofs.row.colour_row.Goals.{then-y-y0-via-then-y-y0, then-y-y0-via-else-y-y0+then-y1-y}

pub returns-then-y-y0 : goal.returns-then-y-y0
returns-then-y-y0 c i lt =
    let fits_y = c.ranges.y in
    let is = c.rect-rect.ensures.value in
    let long = c.fill.auto.d in
    let y_is = to_z-of_z w32 c.args.y fits_y in
    let zero : get_or c.fill.new.d i 0 ≡ 0 = ap (λ r. get_or r i 0) c.fill.ensures ∙ get_or-replicate (length c.args.out.now) i 0 0 (omega arith) in
    let top : to_z w32 (of_z w32 c.y0.result) ≡ c.args.prim.now.rect.y0 = (let fits : SFits w32 c.y0.result = search rules in to_z-of_z w32 c.y0.result fits) ∙ c.y0.ensures.value ∙ ap (λ (b : Bounds). b.y0) is in
    elim c.then-y-y0.branch [
      | then-y-y0-via-then-y-y0 w ↦
          let low : to_z w32 (of_z w32 c.args.y) <ℤ to_z w32 (of_z w32 c.y0.result) = lt_z_yes (subst T (sym w.if-y-y0.true) tt) in
          zero ∙ sym (byte_above c.args.store.now c.args.prim.now c.args.p (c.args.x0 +ℤ pos i) c.args.y (inl (omega (arith, ints))))
      | then-y-y0-via-else-y-y0+then-y1-y w ↦
          let high : to_z w32 (of_z w32 w.y1.result) ≤ℤ to_z w32 (of_z w32 c.args.y) = le_z_yes (subst T (sym w.if-y1-y.true) tt) in
          let bottom : to_z w32 (of_z w32 w.y1.result) ≡ c.args.prim.now.rect.y1 = (let fits : SFits w32 w.y1.result = search rules in to_z-of_z w32 w.y1.result fits) ∙ w.y1.ensures.value ∙ ap (λ (b : Bounds). b.y1) is in
          zero ∙ sym (byte_above c.args.store.now c.args.prim.now c.args.p (c.args.x0 +ℤ pos i) c.args.y (inr (omega (arith, ints))))
    ]

pub kind_part-requires-clause-pixels : goal.kind_part-requires-clause-pixels
kind_part-requires-clause-pixels c k low high =
    let fits_y0 : SFits w32 c.y0.result = search rules in
    let fits_y1 : SFits w32 c.y1.result = search rules in
    let top : to_z w32 (of_z w32 c.y0.result) ≤ℤ to_z w32 (of_z w32 c.args.y) = lt_z_no (subst (λ t. T (not t)) (sym c.if-y-y0.false) tt) in
    let bottom : to_z w32 (of_z w32 c.args.y) <ℤ to_z w32 (of_z w32 c.y1.result) = le_no (to_z w32 (of_z w32 c.y1.result)) (to_z w32 (of_z w32 c.args.y)) c.if-y1-y.false in
    let y0 = to_z-of_z w32 c.y0.result fits_y0 ∙ c.y0.ensures.value in
    let y1 = to_z-of_z w32 c.y1.result fits_y1 ∙ c.y1.ensures.value in
    record { left = c.columns_in-from.ensures.left k low high; right = c.columns_in-from.ensures.right k high; top = omega (arith, ints); bottom = omega (arith, ints) }

pub returns-then-from-to : goal.returns-then-from-to
returns-then-from-to c i lt =
    let fits_x0 = c.ranges.x0 in
    let fits_y = c.ranges.y in
    let is = c.rect-rect.ensures.value in
    let part = c.columns_in-from.ensures in
    let x0 = to_z-of_z w32 c.args.x0 fits_x0 in
    let left = ap (λ (b : Bounds). b.x0) is in
    let right = ap (λ (b : Bounds). b.x1) is in
    let top = ap (λ (b : Bounds). b.y0) is in
    let bottom = ap (λ (b : Bounds). b.y1) is in
    let long = c.kind_part.auto.out in
    let room = c.clear_around.auto.out in
    let within = part.within in
    let y_is = to_z-of_z w32 c.args.y fits_y in
    let fits_y0 : SFits w32 c.y0.result = search rules in
    let fits_y1 : SFits w32 c.y1.result = search rules in
    let above : to_z w32 (of_z w32 c.y0.result) ≤ℤ to_z w32 (of_z w32 c.args.y) = lt_z_no (subst (λ t. T (not t)) (sym c.if-y-y0.false) tt) in
    let below : to_z w32 (of_z w32 c.args.y) <ℤ to_z w32 (of_z w32 c.y1.result) = le_no (to_z w32 (of_z w32 c.y1.result)) (to_z w32 (of_z w32 c.args.y)) c.if-y1-y.false in
    let y0 = to_z-of_z w32 c.y0.result fits_y0 ∙ c.y0.ensures.value in
    let y1 = to_z-of_z w32 c.y1.result fits_y1 ∙ c.y1.ensures.value in
    row_is c.args.store.now c.args.prim.now c.args.p c.args.x0 c.args.y (length c.args.out.now) c.columns_in-from.result.0 c.columns_in-from.result.1 c.clear_around.new.out c.kind_part.new.out
    (λ k l. let z = part.before k l in omega (arith, ints))
    (λ k l r. let z = part.left k l r in let w = part.right k r in record { left = omega (arith, ints); right = omega (arith, ints); top = omega (arith, ints); bottom = omega (arith, ints) })
    (λ k l r. let z = part.after k l r in omega (arith, ints))
    c.clear_around.ensures.before c.clear_around.ensures.after
    (λ k l r. simp to_z-of_z at (rw (is, c.kind.ensures.value) at (c.kind_part.ensures.inside k l r)))
    c.kind_part.ensures.before c.kind_part.ensures.after i (omega arith)

pub returns-else-from-to : goal.returns-else-from-to
returns-else-from-to c i lt =
    let fits_x0 = c.ranges.x0 in
    let is = c.rect-rect.ensures.value in
    let part = c.columns_in-from.ensures in
    let x0 = to_z-of_z w32 c.args.x0 fits_x0 in
    let left = ap (λ (b : Bounds). b.x0) is in
    let right = ap (λ (b : Bounds). b.x1) is in
    let room = c.clear_around.auto.out in
    let within = part.within in
    let none = c.if-from-to.false in
    row_is c.args.store.now c.args.prim.now c.args.p c.args.x0 c.args.y (length c.args.out.now) c.columns_in-from.result.0 c.columns_in-from.result.1 c.clear_around.new.out c.clear_around.new.out
    (λ k l. let z = part.before k l in omega (arith, ints))
    (λ k l r. absurd (omega arith))
    (λ k l r. let z = part.after k l r in omega (arith, ints))
    c.clear_around.ensures.before c.clear_around.ensures.after
    (λ k l r. absurd (omega arith)) (λ k l. refl) (λ k l. refl) i (omega arith)
