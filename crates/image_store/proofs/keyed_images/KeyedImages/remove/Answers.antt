use Rattle.std.proofs.Common.{sym, ap, ◌∙◌, arith}
use Rattle.std.specs.Cmp.{nat_cmp_total}
use Rattle.std.specs.Ordering.{nat_cmp}
use Rattle.std.specs.FinMap as map
use Rattle.image_store.specs.Models.{image_area}
use Rattle.image_store.specs.StoreModel.{sum_of}
use Rattle.image_store.proofs.Keys.{keyed_removed}
use Rattle.image_store.proofs.Lookups.{none_found, some_found}
use Rattle.image_store.proofs.Maps.{remove_none}
use Rattle.image_store.proofs.Sums.{len-removed}
use Rattle.image_store.proofs.keyed_images.KeyedImages.remove.Goals as goal

pub returns-then-is_none : goal.returns-then-is_none
returns-then-is_none c = sym (remove_none nat_cmp_total map.nat_cmp-IsAntisymmetric c.args.self.now c.args.key (none_found c.get.result (map.get c.args.self.now c.args.key) c.get.ensures c.if-is_none.ensures))

pub remove_key-requires : goal.remove_key-requires
remove_key-requires c =
    let there = some_found c.get.result (map.get c.args.self.now c.args.key) c.get.ensures c.if-is_none.ensures in
    let fewer = len-removed nat_cmp nat_cmp_total image_area map.nat_cmp-IsAntisymmetric c.args.self.now c.args.key there.0 there.1 in
    let number = c.self.invariant.number ∙ ap map.len c.self.view_is in
    omega (arith, c.self.invariant.room)

pub invariant_of-self : goal.invariant_of-self
invariant_of-self c =
    let i = c.self.inside in
    let there = some_found c.get.result (map.get c.args.self.now c.args.key) c.get.ensures c.if-is_none.ensures in
    let number = c.counts_without-count.ensures.count ∙ ap (λ m. map.len (map.remove m c.args.key)) (sym c.self.view_is) in
    let area = c.counts_without-count.ensures.area ∙ ap (λ m. sum_of image_area (map.remove m c.args.key)) (sym c.self.view_is) in
    keyed_removed i.images c.remove_key.new.images i.gone.items c.remove_key.new.gone.items i.gone.cap c.remove_key.new.gone.cap i.count i.area c.counts_without-count.result.0 c.counts_without-count.result.1 c.args.key there.0 c.self.invariant
    (ap (λ m. map.get m c.args.key) c.self.view_is ∙ there.1) c.remove_key.ensures.value c.remove_key.ensures.length c.remove_key.ensures.room number area
