use Rattle.std.proofs.Common.{subst, sym, refl}
use Rattle.image_store.specs.Models.{IsMask}
use Rattle.image_store.specs.StoreModel.{StoreModel, IsStore}
use Rattle.image_store.proofs.Stored.{with_glyph_is_store, same_store}
use Rattle.image_store.proofs.store.Store.add_glyph.Goals as goal

pub invariant_of-self-2 : goal.invariant_of-self-2
invariant_of-self-2 c =
    let s : StoreModel = record { images = c.self.inside.images; masks = c.self.inside.masks } in
    let mask : IsMask c.in_ok-mask.mask = subst IsMask (sym c.in_ok-mask.ensures) (record { wide = c.requires.wide; high = c.requires.high; whole = c.requires.whole; bytes = λ i. (c.type_inv.mask i).fits }) in
    subst IsStore (sym (same_store _ _ _ _ refl c.in_ok-put_mask.ensures.ok)) (with_glyph_is_store s c.from.result c.from-2.result c.from-3.result c.in_ok-mask.mask c.self.invariant mask)
