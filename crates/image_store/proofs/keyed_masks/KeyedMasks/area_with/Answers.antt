use Rattle.std.proofs.Common.{arith}
use Rattle.std.specs.Cmp.{nat_cmp_total}
use Rattle.std.specs.Ordering.{nat_cmp}
use Rattle.std.specs.FinMap as map
use Rattle.image_store.specs.Models.{mask_area}
use Rattle.image_store.proofs.Sums.{sum-inserted}
use Rattle.image_store.proofs.keyed_masks.KeyedMasks.area_with.Goals as goal

pub returns-in-Some : goal.returns-in-Some
returns-in-Some c =
    let more = sum-inserted nat_cmp nat_cmp_total mask_area map.nat_cmp-IsAntisymmetric c.args.self.now c.args.glyph c.args.mask.now in
    omega (arith, c.in-Some.ensures.1, c.area_of.ensures.area, c.area_without.ensures)
