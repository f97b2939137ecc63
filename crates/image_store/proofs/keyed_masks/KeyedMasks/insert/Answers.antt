use Rattle.std.proofs.Common.{sym, ap, subst, ◌∙◌}
use Rattle.std.specs.FinMap as map
use Rattle.image_store.specs.Models.{IsMask, mask_area}
use Rattle.image_store.specs.StoreModel.{sum_of}
use Rattle.image_store.proofs.Keys.{masks_inserted}
use Rattle.image_store.proofs.keyed_masks.KeyedMasks.insert.Goals as goal

pub invariant_of-self-2 : goal.invariant_of-self-2
invariant_of-self-2 c =
    masks_inserted c.self.inside.masks c.put.new.masks c.self.inside.area c.in_ok-area.area c.args.glyph c.args.mask c.self.invariant c.in_ok-put.ensures.ok (subst IsMask c.mask.view_is c.mask.invariant)
    (c.in_ok-area.ensures ∙ ap (λ m. sum_of mask_area (map.insert m c.args.glyph c.args.mask)) (sym c.self.view_is))
