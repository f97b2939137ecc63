-- The code of a store's value.
use Rattle.std.specs.Prelude.{refl}
use Rattle.std.specs.Ordering.{nat_cmp}
use Rattle.std.specs.FinMap as map
use Rattle.std.specs.Coded.{Coded, code_by, coded×, coded_ℕ}
use Rattle.containers.specs.PairOrder.{pair_cmp}
use Rattle.image_store.specs.StoreModel.{StoreModel, Images, Masks}
use Rattle.image_store.specs.contracts.image.Image as an_image
use Rattle.image_store.specs.contracts.mask.Mask as a_mask

abbrev pub store_code : Coded StoreModel
store_code =
    code_by (map.FinMap nat_cmp Images × map.FinMap pair_cmp Masks)
    (coded× (map.code coded_ℕ (map.code coded_ℕ an_image.the_row.coded)) (map.code (coded× coded_ℕ coded_ℕ) (map.code coded_ℕ a_mask.the_row.coded)))
    (λ s. (s.images, s.masks)) (λ p. record { images = p.0; masks = p.1 }) (λ _. refl)
