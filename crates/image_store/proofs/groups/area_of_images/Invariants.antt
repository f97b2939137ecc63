use Rattle.std.proofs.Common.{◌≡◌, min, ◌-◌, ◌^◌}
use Rattle.std.specs.List.{sum_by}
use Rattle.image_store.specs.Models.{image_area}
use Rattle.image_store.specs.StoreModel.{sum_of}
use Rattle.image_store.proofs.groups.area_of_images.Given as goal

abbrev pub invariant-loop-images : goal.invariant-loop-images
invariant-loop-images l = l.area ≡ min (2 ^ 64 - 1) (sum_by (λ y. sum_of image_area y.1.now) l.yielded)
