use Rattle.std.proofs.Common.{◌≡◌, ℕ, pos, ◌+ℤ◌, get_or, ap, ◌∙◌, arith}
use Rattle.std.proofs.lemmas.Int.{to_z-of_z}
use Rattle.std.proofs.lemmas.Grind.{common_steps}
use Rattle.blend_rules.specs.Colour.{product}
use Rattle.blend_rules.proofs.Products.{product-full_left}
use Rattle.clip_masks.specs.Coverage.{coverage}
use Rattle.clip_masks.proofs.Chains.{coverage_byte}
use Rattle.clip_masks.proofs.clip.Clip.mask_row.Goals as goal

pub returns : goal.returns
returns c k h =
    let fits_x0 = c.ranges.x0 in
    let fits_y = c.ranges.y in
    let cover = coverage c.args.self.now (c.args.x0 +ℤ pos k) c.args.y in
    let filled : get_or c.fill.new.self k 0 ≡ 255 = grind (arith, common_steps) in
    (simp to_z-of_z at (c.scale_row.ensures k h)) ∙ ap (λ (n : ℕ). product n cover) filled ∙ product-full_left cover (coverage_byte c.args.self.now (c.args.x0 +ℤ pos k) c.args.y)
