use Rattle.std.proofs.Common.{◌≡◌, min, ◌-◌, ◌^◌}
use Rattle.std.specs.List.{sum_by}
use Rattle.image_store.specs.Models.{mask_area}
use Rattle.image_store.specs.StoreModel.{sum_of}
use Rattle.image_store.proofs.groups.area_of_masks.Given as goal

abbrev pub invariant-loop-masks : goal.invariant-loop-masks
invariant-loop-masks l = l.area ≡ min (2 ^ 64 - 1) (sum_by (λ y. sum_of mask_area y.1.now) l.yielded)
