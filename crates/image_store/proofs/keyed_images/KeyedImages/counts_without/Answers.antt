use Rattle.std.proofs.Common.{◌≡◌, Some, sym, ap, ◌∙◌, arith}
use Rattle.std.specs.Cmp.{nat_cmp_total}
use Rattle.std.specs.Ordering.{nat_cmp}
use Rattle.std.specs.Option.{option_copied}
use Rattle.std.specs.FinMap as map
use Rattle.image_store.specs.Models.{image_area}
use Rattle.image_store.specs.StoreModel.{sum_of}
use Rattle.image_store.proofs.Maps.{remove_none}
use Rattle.image_store.proofs.Sums.{len-removed, sum-removed}
use Rattle.image_store.proofs.keyed_images.KeyedImages.counts_without.Goals as goal

pub overflow_sub-result : goal.overflow_sub-result
overflow_sub-result c =
    let there : map.get c.args.self.now c.args.key ≡ Some c.in-Some.image.now = sym (ap option_copied (sym c.in-Some.is) ∙ c.get.ensures) in
    let less = len-removed nat_cmp nat_cmp_total image_area map.nat_cmp-IsAntisymmetric c.args.self.now c.args.key c.in-Some.image.now there in
    let n = c.self.invariant.number ∙ ap map.len c.self.view_is in
    omega arith

pub overflow_sub-result-in-Some : goal.overflow_sub-result-in-Some
overflow_sub-result-in-Some c =
    let there : map.get c.args.self.now c.args.key ≡ Some c.in-Some.image.now = sym (ap option_copied (sym c.in-Some.is) ∙ c.get.ensures) in
    let less = sum-removed nat_cmp nat_cmp_total image_area map.nat_cmp-IsAntisymmetric c.args.self.now c.args.key c.in-Some.image.now there in
    let n = c.self.invariant.pixels ∙ ap (sum_of image_area) c.self.view_is in
    omega (arith, c.area_of.ensures.area)

pub returns-in-Some : goal.returns-in-Some
returns-in-Some c =
    let there : map.get c.args.self.now c.args.key ≡ Some c.in-Some.image.now = sym (ap option_copied (sym c.in-Some.is) ∙ c.get.ensures) in
    let fewer = len-removed nat_cmp nat_cmp_total image_area map.nat_cmp-IsAntisymmetric c.args.self.now c.args.key c.in-Some.image.now there in
    let less = sum-removed nat_cmp nat_cmp_total image_area map.nat_cmp-IsAntisymmetric c.args.self.now c.args.key c.in-Some.image.now there in
    let n = c.self.invariant.number ∙ ap map.len c.self.view_is in
    let p = c.self.invariant.pixels ∙ ap (sum_of image_area) c.self.view_is in
    record { count = omega arith; area = omega (arith, c.area_of.ensures.area) }

pub returns-in-None : goal.returns-in-None
returns-in-None c =
    let same = remove_none nat_cmp_total map.nat_cmp-IsAntisymmetric c.args.self.now c.args.key (sym (ap option_copied (sym c.in-None.is) ∙ c.get.ensures)) in
    record {
      count = c.self.invariant.number ∙ ap map.len (c.self.view_is ∙ sym same);
      area = c.self.invariant.pixels ∙ ap (sum_of image_area) (c.self.view_is ∙ sym same);
    }
