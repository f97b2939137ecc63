use Rattle.std.proofs.Common.{◌≡◌, ◌<◌, ◌≤◌, ◌⊎◌, inl, inr, ℕ, arith}
use Rattle.std.proofs.lemmas.Bool.{cases_lt}
use Rattle.blend_rules.specs.declared.colour.Px.{Px}
use Rattle.tile_raster.specs.Levels.{over_primitive}
use Rattle.tile_raster.specs.Rows.{pixel, IsIn}
use Rattle.tile_raster.specs.Spans.{x_of, painted_above}
use Rattle.tile_raster.proofs.Painting.{painted_wider, above_fails, above_still}
use Rattle.tile_raster.proofs.Covered.{over_hidden}
use Rattle.tile_raster.proofs.lay.lay_primitive.Goals as goal

pub returns-clause-row : goal.returns-clause-row
returns-clause-row c =
    let t = c.args.noted in
    let store = t.store.now in
    let p = t.primitive.now in
    let first = c.args.strip.first in
    let shown = c.cut_strip-shown.result in
    let f = λ (k : ℕ) (d : Px). over_primitive store p (x_of first k) first.y d in
    let row = c.args.row.now in
    let beside : (k : ℕ) → IsIn c.args.strip.span k → (k < shown.from) ⊎ (shown.to ≤ k) → painted_above f t.number c.args.cover.now k (pixel row k) ≡ pixel row k = λ k h o.
    above_still f t.number c.args.cover.now k (pixel row k) (over_hidden store p (x_of first k) first.y (pixel row k) c.requires.noted.store c.requires.noted.primitive (c.know_pixels.ensures k)
    (rw c.requires.visible at c.cut_strip-shown.ensures.outside k h o)) in
    painted_wider (painted_above f t.number c.args.cover.now) (record { from = shown.from; to = c.parts.next }) c.args.strip.span row c.parts.row c.cut_strip-shown.ensures.left
    (omega (arith, c.parts.invariant.right, c.cut_strip-shown.ensures.right))
    (λ k h o. elim o [
      | inl less ↦ beside k h (inl less)
      | inr more ↦ elim (cases_lt k shown.to) [
        | inr past ↦ beside k h (inr past)
        | inl here ↦ above_fails f t.number c.args.cover.now k (pixel row k) (c.in_default.ensures k more here)
      ]
    ]) c.parts.invariant.painted
