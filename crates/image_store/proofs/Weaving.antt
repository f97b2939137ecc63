-- Colours out of four planes.
use Rattle.std.proofs.Common.{◌≡◌, ℕ, ◌<◌, List, length, get_or}
use Rattle.blend_rules.specs.Pixels.{nth_pixel}
use Rattle.image_store.specs.Bands.{woven}
use Rattle.image_store.proofs.Lists.{length-listed, listed_at}

module _ (blue green red alpha : List ℕ) where
  pub length-woven : length (woven blue green red alpha) ≡ length blue
  unfolding woven
  length-woven = length-listed (length blue) (λ i. record { b = get_or blue i 0; g = get_or green i 0; r = get_or red i 0; a = get_or alpha i 0 })

  pub woven_at : (i : ℕ) → i < length blue → nth_pixel (woven blue green red alpha) i ≡ record { b = get_or blue i 0; g = get_or green i 0; r = get_or red i 0; a = get_or alpha i 0 }
  unfolding woven
  woven_at i h = listed_at (length blue) (λ i. record { b = get_or blue i 0; g = get_or green i 0; r = get_or red i 0; a = get_or alpha i 0 }) i h

pub ruleset weaving = (length-woven, woven_at)
