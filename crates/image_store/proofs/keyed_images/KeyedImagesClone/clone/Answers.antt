use Rattle.std.proofs.Common.{◌++◌, ap, ◌∙◌, arith}
use Rattle.image_store.proofs.Keys.{keyed_kept}
use Rattle.image_store.proofs.keyed_images.KeyedImagesClone.clone.Goals as goal

pub invariant_of-result : goal.invariant_of-result
invariant_of-result c =
    let i = c.self.inside in
    keyed_kept i.images c.in_ok-images.images i.gone.items c.extend_from_slice.new.self.items i.gone.cap c.extend_from_slice.new.self.cap i.count i.area c.self.invariant c.in_ok-images.ensures
    (c.in_ok-extend_from_slice.ensures.items ∙ ap (λ l. l ++ c.deref.result.now) c.in_ok-gone.ensures.items ∙ c.deref.ensures.value)
    (omega (arith, c.extend_from_slice.ensures.capacity, c.in_ok-gone.ensures.capacity, c.capacity.ensures))
