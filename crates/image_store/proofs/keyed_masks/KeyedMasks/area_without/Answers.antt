use Rattle.std.proofs.Common.{◌≡◌, Some, sym, ap, ◌∙◌, arith}
use Rattle.std.specs.Cmp.{nat_cmp_total}
use Rattle.std.specs.Ordering.{nat_cmp}
use Rattle.std.specs.Option.{option_copied}
use Rattle.std.specs.FinMap as map
use Rattle.image_store.specs.Models.{mask_area}
use Rattle.image_store.specs.StoreModel.{sum_of}
use Rattle.image_store.proofs.Maps.{remove_none}
use Rattle.image_store.proofs.Sums.{sum-removed}
use Rattle.image_store.proofs.keyed_masks.KeyedMasks.area_without.Goals as goal

pub overflow_sub-result : goal.overflow_sub-result
overflow_sub-result c =
    let there : map.get c.args.self.now c.args.glyph ≡ Some c.in-Some.mask.now = sym (ap option_copied (sym c.in-Some.is) ∙ c.get.ensures) in
    let less = sum-removed nat_cmp nat_cmp_total mask_area map.nat_cmp-IsAntisymmetric c.args.self.now c.args.glyph c.in-Some.mask.now there in
    let n = c.self.invariant.pixels ∙ ap (sum_of mask_area) c.self.view_is in
    omega (arith, c.area_of.ensures.area)

pub returns-in-Some : goal.returns-in-Some
returns-in-Some c =
    let there : map.get c.args.self.now c.args.glyph ≡ Some c.in-Some.mask.now = sym (ap option_copied (sym c.in-Some.is) ∙ c.get.ensures) in
    let less = sum-removed nat_cmp nat_cmp_total mask_area map.nat_cmp-IsAntisymmetric c.args.self.now c.args.glyph c.in-Some.mask.now there in
    let n = c.self.invariant.pixels ∙ ap (sum_of mask_area) c.self.view_is in
    omega (arith, c.area_of.ensures.area)

pub returns-in-None : goal.returns-in-None
returns-in-None c =
    let same = remove_none nat_cmp_total map.nat_cmp-IsAntisymmetric c.args.self.now c.args.glyph (sym (ap option_copied (sym c.in-None.is) ∙ c.get.ensures)) in
    c.self.invariant.pixels ∙ ap (sum_of mask_area) (c.self.view_is ∙ sym same)
