use Rattle.std.proofs.Common.{arith}
use Rattle.std.specs.Cmp.{nat_cmp_total}
use Rattle.std.specs.Ordering.{nat_cmp}
use Rattle.std.specs.FinMap as map
use Rattle.image_store.specs.Models.{image_area}
use Rattle.image_store.proofs.Sums.{len-inserted, sum-inserted}
use Rattle.image_store.proofs.keyed_images.KeyedImages.counts_with.Goals as goal

pub returns-in-Some-checked_add-clause-count : goal.returns-in-Some-checked_add-clause-count
returns-in-Some-checked_add-clause-count c =
    let more = len-inserted nat_cmp nat_cmp_total image_area map.nat_cmp-IsAntisymmetric c.args.self.now c.args.key c.args.image.now in
    omega (arith, c.in-Some.ensures.1, c.counts_without-others.ensures.count)

pub returns-in-Some-checked_add-clause-area : goal.returns-in-Some-checked_add-clause-area
returns-in-Some-checked_add-clause-area c =
    let more = sum-inserted nat_cmp nat_cmp_total image_area map.nat_cmp-IsAntisymmetric c.args.self.now c.args.key c.args.image.now in
    omega (arith, c.in-Some-checked_add.ensures.1, c.area_of.ensures.area, c.counts_without-others.ensures.area)
