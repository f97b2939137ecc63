use Rattle.std.proofs.Common.{subst, sym, refl}
use Rattle.image_store.specs.StoreModel.{StoreModel, IsStore}
use Rattle.image_store.proofs.Stored.{without_font_is_store, same_store}
use Rattle.image_store.proofs.store.Store.delete_font.Goals as goal

pub invariant_of-self : goal.invariant_of-self
invariant_of-self c =
    let s : StoreModel = record { images = c.self.inside.images; masks = c.self.inside.masks } in
    subst IsStore (sym (same_store _ _ _ _ refl c.remove.ensures.removed)) (without_font_is_store s c.from.result c.from-2.result c.self.invariant)
