use Rattle.std.proofs.Common.{subst, sym, refl}
use Rattle.image_store.specs.StoreModel.{StoreModel, IsStore}
use Rattle.image_store.proofs.Stored.{with_image_is_store, same_store}
use Rattle.image_store.proofs.store.Store.update.Goals as goal

pub invariant_of-self : goal.invariant_of-self
invariant_of-self c = subst IsStore (sym (same_store _ _ _ _ c.in_err-put_image.ensures.err refl)) c.self.invariant

pub invariant_of-self-2 : goal.invariant_of-self-2
invariant_of-self-2 c =
    let s : StoreModel = record { images = c.self.inside.images; masks = c.self.inside.masks } in
    subst IsStore (sym (same_store _ _ _ _ c.in_ok-put_image.ensures.ok refl)) (with_image_is_store s c.from.result c.args.key c.in-Ok.next c.self.invariant c.in_ok-put_image.ensures.image)
