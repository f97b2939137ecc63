use mir.Val.{SFits}
use Rattle.std.proofs.lemmas.Int.{ints, to_z-of_z}
use Rattle.std.proofs.Common.{◌≡◌, ◌∙◌, ℤ, ◌+ℤ◌, ap, ap₂, w32, to_z, of_z, arith}
use Rattle.wr_geom.specs.declared.point.Point.{Point}
use Rattle.painter.proofs.shown.glyph_corner.Goals as goal

axis : (a g : ℤ) → SFits w32 a → SFits w32 g → SFits w32 (a +ℤ g) → to_z w32 (of_z w32 (to_z w32 (of_z w32 a) +ℤ to_z w32 (of_z w32 g))) ≡ a +ℤ g
axis a g fits_a fits_g fits =
    ap (λ (z : ℤ). to_z w32 (of_z w32 z)) (ap₂ (λ (m n : ℤ). m +ℤ n) (to_z-of_z w32 a fits_a) (to_z-of_z w32 g fits_g)) ∙ to_z-of_z w32 (a +ℤ g) fits

pub returns : goal.returns
returns c =
    let r = c.requires.reach in
    let g = c.requires.glyph in
    ap₂ (λ (x y : ℤ). (let p : Point = record { x = x; y = y } in p))
    (axis c.args.at.x c.args.g.x (omega (arith, ints, r.left, r.right)) (omega (arith, ints, g.x)) (omega (arith, ints, r.left, r.right, g.x)))
    (axis c.args.at.y c.args.g.y (omega (arith, ints, r.top, r.bottom)) (omega (arith, ints, g.y)) (omega (arith, ints, r.top, r.bottom, g.y)))
