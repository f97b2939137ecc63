-- How a pipeline's images and a font's masks are kept.
use Rattle.std.specs.Prelude.{◌≡◌, ℕ, ◌+◌, ◌≤◌, Option, Some, None, List, [], ◌∷◌, length}
use Rattle.std.specs.FinMap as map
use Rattle.image_store.specs.Models.{ImageModel, MaskModel, IsImage, IsMask, image_area, mask_area}
use Rattle.image_store.specs.StoreModel.{Images, Masks, sum_of}

-- images without those of some keys
abbrev pub without_keys : Images → List ℕ → Images
without_keys images [] = images
without_keys images (key ∷ keys) = without_keys (map.remove images key) keys

-- what is counted of a value that may stand at a key
abbrev pub counted_at : {X : Type 0} → (X → ℕ) → Option X → ℕ
counted_at f None = 0
counted_at f (Some x) = f x

-- images are whole, their number and their pixels are known, and there is room for the keys of all that are left
pub record AreKeyed (images : Images) (gone : List ℕ) (capacity count area : ℕ) : Type 0 where
  pub whole : (key : ℕ) (image : ImageModel) → map.get (without_keys images gone) key ≡ Some image → IsImage image
  pub number : count ≡ map.len (without_keys images gone)
  pub pixels : area ≡ sum_of image_area (without_keys images gone)
  pub room : length gone + count ≤ capacity

-- masks are whole, and their pixels are known
pub record AreKeyedMasks (masks : Masks) (area : ℕ) : Type 0 where
  pub whole : (glyph : ℕ) (mask : MaskModel) → map.get masks glyph ≡ Some mask → IsMask mask
  pub pixels : area ≡ sum_of mask_area masks
