-- What holds of images, of stores and of their changes, as laws on the definitions.
use Rattle.std.specs.Prelude.{◌≡◌, ◌⊎◌, ◌≤◌, ◌<◌, ℕ, ◌+◌, Some, None, List, length, Ok}
use Rattle.blend_rules.specs.declared.colour.Px.{Px}
use Rattle.blend_rules.specs.Colour.{IsPremultiplied}
use Rattle.blend_rules.specs.Pixels.{nth_pixel, ArePremultiplied}
use Rattle.image_store.specs.Models.{ImageModel, MaskModel, texel_of}
use Rattle.image_store.specs.Patches.{patched, patched_texel}
use Rattle.image_store.specs.StoreModel.{StoreModel, image_at, glyph_at, with_image, without_image, with_glyph, without_font}
use Rattle.image_store.specs.Changes.{image_added, image_updated, image_deleted, glyph_added, first_bad}
use Rattle.image_store.specs.declared.patch.Patch.{Patch}

-- ---- images

-- inside the rectangle stands the new colour, and outside it the old one
abbrev pub PatchedByTexel : Type 0
PatchedByTexel = (patch : Patch) (new : List Px) (old : ImageModel) (x y : ℕ) → x < old.w → y < old.h → texel_of (patched patch new old) x y ≡ patched_texel patch new old x y

-- the first colour that is bad is one of them, isn't premultiplied, and all before it are
pub record IsFirstBad (texels : List Px) (i : ℕ) : Type 0 where
  pub within : i < length texels
  pub bad : ¬ (IsPremultiplied (nth_pixel texels i))
  pub before : (k : ℕ) → k < i → IsPremultiplied (nth_pixel texels k)

abbrev pub FirstBadIsFirst : Type 0
FirstBadIsFirst = (texels : List Px) (i : ℕ) → first_bad texels ≡ Some i → IsFirstBad texels i

-- where none is bad, all are premultiplied
abbrev pub NoneIsBad : Type 0
NoneIsBad = (texels : List Px) → first_bad texels ≡ None → ArePremultiplied texels

-- ---- look-ups after a change

-- an image that is put stands at its key, and what has another key stays
pub record ImageIsPut (pipeline key : ℕ) (image : ImageModel) (store : StoreModel) : Type 0 where
  pub there : image_at (with_image pipeline key image store) pipeline key ≡ Some image
  pub beside : (p k : ℕ) → ¬ ((p ≡ pipeline) × (k ≡ key)) → image_at (with_image pipeline key image store) p k ≡ image_at store p k

-- an image that is deleted is gone, and what has another key stays
pub record ImageIsGone (pipeline key : ℕ) (store : StoreModel) : Type 0 where
  pub gone : image_at (without_image pipeline key store) pipeline key ≡ None
  pub beside : (p k : ℕ) → ¬ ((p ≡ pipeline) × (k ≡ key)) → image_at (without_image pipeline key store) p k ≡ image_at store p k

-- a mask that is put stands at its glyph, and what has another glyph, font or pipeline stays
pub record GlyphIsPut (pipeline font glyph : ℕ) (mask : MaskModel) (store : StoreModel) : Type 0 where
  pub there : glyph_at (with_glyph pipeline font glyph mask store) pipeline font glyph ≡ Some mask
  pub beside : (p f g : ℕ) → ¬ ((p ≡ pipeline) × (f ≡ font) × (g ≡ glyph)) → glyph_at (with_glyph pipeline font glyph mask store) p f g ≡ glyph_at store p f g

-- a font that is deleted has no mask, and the masks of other fonts and pipelines stay
pub record FontIsGone (pipeline font : ℕ) (store : StoreModel) : Type 0 where
  pub gone : (g : ℕ) → glyph_at (without_font pipeline font store) pipeline font g ≡ None
  pub beside : (p f g : ℕ) → ¬ ((p ≡ pipeline) × (f ≡ font)) → glyph_at (without_font pipeline font store) p f g ≡ glyph_at store p f g

-- ---- generations

-- each image and mask stood in the old store under its key, or has a generation
pub record IsStep (old new : StoreModel) (generation : ℕ) : Type 0 where
  pub images : (p k : ℕ) (image : ImageModel) → image_at new p k ≡ Some image → (image_at old p k ≡ Some image) ⊎ (image.generation ≡ generation)
  pub masks : (p f g : ℕ) (mask : MaskModel) → glyph_at new p f g ≡ Some mask → (glyph_at old p f g ≡ Some mask) ⊎ (mask.generation ≡ generation)

-- adding and updating give the generation after the last one, and each is a step to it
pub record IsNextStep (old new : StoreModel) (last generation : ℕ) : Type 0 where
  pub next : generation ≡ last + 1
  pub step : IsStep old new generation

abbrev pub AddingIsAStep : Type 0
AddingIsAStep = (p k w h : ℕ) (bytes : List ℕ) (old new : StoreModel) (last generation : ℕ) → image_added p k w h bytes old last ≡ Ok (new, generation) → IsNextStep old new last generation

abbrev pub UpdatingIsAStep : Type 0
UpdatingIsAStep = (p k : ℕ) (patch : Patch) (bytes : List ℕ) (old new : StoreModel) (last generation : ℕ) → image_updated p k patch bytes old last ≡ Ok (new, generation) → IsNextStep old new last generation

abbrev pub AddingGlyphIsAStep : Type 0
AddingGlyphIsAStep = (p f g w h : ℕ) (bytes : List ℕ) (old new : StoreModel) (last generation : ℕ) → glyph_added p f g w h bytes old last ≡ Ok (new, generation) → IsNextStep old new last generation

-- deleting brings nothing new
abbrev pub DeletingIsAStep : Type 0
DeletingIsAStep = (p k : ℕ) (old new : StoreModel) (generation : ℕ) → image_deleted p k old ≡ Ok new → IsStep old new generation

abbrev pub DeletingFontIsAStep : Type 0
DeletingFontIsAStep = (p f : ℕ) (old : StoreModel) (generation : ℕ) → IsStep old (without_font p f old) generation

-- no image or mask has a generation above the last one
pub record IsUpTo (last : ℕ) (store : StoreModel) : Type 0 where
  pub images : (p k : ℕ) (image : ImageModel) → image_at store p k ≡ Some image → image.generation ≤ last
  pub masks : (p f g : ℕ) (mask : MaskModel) → glyph_at store p f g ≡ Some mask → mask.generation ≤ last

-- a step to a generation that isn't below the last one keeps this
abbrev pub StepsKeepBound : Type 0
StepsKeepBound = (old new : StoreModel) (last generation : ℕ) → IsUpTo last old → IsStep old new generation → last ≤ generation → IsUpTo generation new
