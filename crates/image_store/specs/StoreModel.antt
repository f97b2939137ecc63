-- A store as contracts see it: finite maps of images and of masks.
use Rattle.std.specs.Prelude.{◌≡◌, ◌≢◌, ℕ, ◌+◌, ◌==◌, Option, Some, None, if◌then◌else◌}
use Rattle.std.specs.List.{sum_by}
use Rattle.std.specs.Ordering.{nat_cmp}
use Rattle.std.specs.declared.cmp.Ordering.{Ordering}
use Rattle.std.specs.FinMap as map
use Rattle.containers.specs.PairOrder.{pair_cmp}
use Rattle.image_store.specs.Models.{ImageModel, MaskModel, IsImage, IsMask, image_area, mask_area}

-- images by key, and masks by glyph
abbrev pub Images : Type 0
Images = map.FinMap nat_cmp ImageModel

abbrev pub Masks : Type 0
Masks = map.FinMap nat_cmp MaskModel

-- the images of each pipeline that has some, and the masks of each pipeline and font that have some
pub record StoreModel : Type 0 where
  pub images : map.FinMap nat_cmp Images
  pub masks : map.FinMap pair_cmp Masks

abbrev pub empty_store : StoreModel
empty_store = record { images = map.empty; masks = map.empty }

abbrev pub or_empty : {X : Type 0} → Option (map.FinMap nat_cmp X) → map.FinMap nat_cmp X
or_empty None = map.empty
or_empty (Some m) = m

-- ---- what is stored

-- the images of a pipeline
abbrev pub images_of : StoreModel → ℕ → Images
images_of store pipeline = or_empty (map.get store.images pipeline)

-- the image of a pipeline and key
abbrev pub image_at : StoreModel → ℕ → ℕ → Option ImageModel
image_at store pipeline key = map.get (images_of store pipeline) key

-- the masks of a pipeline and font
abbrev pub masks_of : StoreModel → ℕ → ℕ → Masks
masks_of store pipeline font = or_empty (map.get store.masks (pipeline, font))

-- the mask of a pipeline, font and glyph
abbrev pub glyph_at : StoreModel → ℕ → ℕ → ℕ → Option MaskModel
glyph_at store pipeline font glyph = map.get (masks_of store pipeline font) glyph

-- a number for each value of a map, summed up
abbrev pub sum_of : {K X : Type 0} {R : K → K → Ordering} → (X → ℕ) → map.FinMap R X → ℕ
sum_of f m = sum_by (λ e. f e.1) (map.entries m)

-- the pixels of all images and masks
abbrev pub pixel_count : StoreModel → ℕ
pixel_count store = sum_of (sum_of image_area) store.images + sum_of (sum_of mask_area) store.masks

-- ---- a store with one thing changed

-- a map of maps with one of them in the place of what stood at its key, and without it where it is empty
abbrev pub put_group : {K X : Type 0} {R : K → K → Ordering} → map.FinMap R (map.FinMap nat_cmp X) → K → map.FinMap nat_cmp X → map.FinMap R (map.FinMap nat_cmp X)
put_group groups key group = if map.len group == 0 then map.remove groups key else map.insert groups key group

-- with an image, in the place of one of that key
abbrev pub with_image : ℕ → ℕ → ImageModel → StoreModel → StoreModel
with_image pipeline key image store = record store { images = map.insert store.images pipeline (map.insert (images_of store pipeline) key image) }

-- without the image of a key
abbrev pub without_image : ℕ → ℕ → StoreModel → StoreModel
without_image pipeline key store = record store { images = put_group store.images pipeline (map.remove (images_of store pipeline) key) }

-- with a mask, in the place of one of that glyph
abbrev pub with_glyph : ℕ → ℕ → ℕ → MaskModel → StoreModel → StoreModel
with_glyph pipeline font glyph mask store = record store { masks = map.insert store.masks (pipeline, font) (map.insert (masks_of store pipeline font) glyph mask) }

-- without the masks of a font
abbrev pub without_font : ℕ → ℕ → StoreModel → StoreModel
without_font pipeline font store = record store { masks = map.remove store.masks (pipeline, font) }

-- ---- facts

-- what every store is: its images and masks are whole, and no pipeline or font stands in it with nothing
pub record IsStore (store : StoreModel) : Type 0 where
  pub images : (pipeline key : ℕ) (image : ImageModel) → image_at store pipeline key ≡ Some image → IsImage image
  pub masks : (pipeline font glyph : ℕ) (mask : MaskModel) → glyph_at store pipeline font glyph ≡ Some mask → IsMask mask
  pub some_images : (pipeline : ℕ) → map.get store.images pipeline ≢ Some map.empty
  pub some_masks : (pipeline font : ℕ) → map.get store.masks (pipeline, font) ≢ Some map.empty
