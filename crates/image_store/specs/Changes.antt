-- What each call makes of a store and of the counter, or why it refuses.
use Rattle.std.specs.Prelude.{ℕ, ◌+◌, nat_lt, if◌then◌else◌, Option, Some, None, List, [], ◌∷◌, Result, Ok, Err}
use Rattle.blend_rules.specs.declared.colour.Px.{Px}
use Rattle.blend_rules.specs.Colour.{is_premultiplied}
use Rattle.blend_rules.specs.Pixels.{pixels}
use Rattle.image_store.specs.Generations.{generation_after}
use Rattle.image_store.specs.Models.{ImageModel}
use Rattle.image_store.specs.Patches.{patched}
use Rattle.image_store.specs.StoreModel.{StoreModel, image_at, with_image, without_image, with_glyph}
use Rattle.image_store.specs.declared.patch.Patch.{Patch}
use Rattle.image_store.specs.declared.error.StoreError.{StoreError}
use Rattle.image_store.specs.declared.error.StoreError.TheVariants as errors

-- ---- checks, each of which gives what follows it, or refuses

-- with the image, where one is stored
abbrev pub where_stored : {Y : Type 0} → Option ImageModel → (ImageModel → Result Y StoreError) → Result Y StoreError
where_stored None follows = Err errors.UnknownImage
where_stored (Some image) follows = follows image

-- with the next generation, where there is one
abbrev pub where_given : {Y : Type 0} → Option ℕ → (ℕ → Result Y StoreError) → Result Y StoreError
where_given None follows = Err errors.Limit
where_given (Some generation) follows = follows generation

-- the number of the first colour that isn't premultiplied, where the first of all has the number n
abbrev pub bad_from : ℕ → List Px → Option ℕ
bad_from n [] = None
bad_from n (p ∷ ps) = if is_premultiplied p then bad_from (n + 1) ps else Some n

-- the number of the first colour that isn't premultiplied
abbrev pub first_bad : List Px → Option ℕ
first_bad texels = bad_from 0 texels

-- a value, where no colour is bad
abbrev pub where_sound : {Y : Type 0} → Option ℕ → Y → Result Y StoreError
where_sound None y = Ok y
where_sound (Some i) y = Err (errors.BadPixels i)

-- a value, where a rectangle lies in the image
abbrev pub where_inside : {Y : Type 0} → ImageModel → Patch → Result Y StoreError → Result Y StoreError
where_inside image patch follows =
    if nat_lt image.w (patch.x + patch.w) then Err errors.OutOfWidth else
    if nat_lt image.h (patch.y + patch.h) then Err errors.OutOfHeight else
    follows

-- ---- images and masks

-- an image of colours, or the first of these that is bad
abbrev pub image_of : ℕ → ℕ → ℕ → List Px → Result ImageModel StoreError
image_of w h generation texels = where_sound (first_bad texels) (record { w = w; h = h; generation = generation; texels = texels })

-- an image under another generation, with colours in the place of a rectangle's, or the first of these that is bad
abbrev pub updated_image : ℕ → Patch → List Px → ImageModel → Result ImageModel StoreError
updated_image generation patch texels image = where_sound (first_bad texels) (record (patched patch texels image) { generation = generation })

-- ---- stores with the counter

-- with an image under its generation, unless it was refused
abbrev pub image_put : ℕ → ℕ → StoreModel → ℕ → Result ImageModel StoreError → Result (StoreModel × ℕ) StoreError
image_put pipeline key store generation (Ok image) = Ok (with_image pipeline key image store, generation)
image_put pipeline key store generation (Err e) = Err e

abbrev pub image_added : ℕ → ℕ → ℕ → ℕ → List ℕ → StoreModel → ℕ → Result (StoreModel × ℕ) StoreError
image_added pipeline key w h bytes store last =
    where_given (generation_after last) (λ generation.
    image_put pipeline key store generation (image_of w h generation (pixels bytes)))

abbrev pub image_updated : ℕ → ℕ → Patch → List ℕ → StoreModel → ℕ → Result (StoreModel × ℕ) StoreError
image_updated pipeline key patch bytes store last =
    where_stored (image_at store pipeline key) (λ image.
    where_inside image patch (
    where_given (generation_after last) (λ generation.
    image_put pipeline key store generation (updated_image generation patch (pixels bytes) image))))

abbrev pub image_deleted : ℕ → ℕ → StoreModel → Result StoreModel StoreError
image_deleted pipeline key store = where_stored (image_at store pipeline key) (λ image. Ok (without_image pipeline key store))

abbrev pub glyph_added : ℕ → ℕ → ℕ → ℕ → ℕ → List ℕ → StoreModel → ℕ → Result (StoreModel × ℕ) StoreError
glyph_added pipeline font glyph w h bytes store last =
    where_given (generation_after last) (λ generation.
    Ok (with_glyph pipeline font glyph (record { w = w; h = h; generation = generation; bytes = bytes }) store, generation))
