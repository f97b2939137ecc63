-- A band of new planes.
use Rattle.std.proofs.Common.{◌≡◌, ℕ, ◌+◌, ◌*◌, ◌/◌, ◌<◌, ◌^◌, zero, suc, List, [], ◌++◌, length, get_or, take, drop, replicate, ap, ◌∙◌, refl, arith}
use Rattle.std.proofs.lemmas.List.{length-replicate, drop_all, append-nil, take_all}
use Rattle.blend_rules.specs.declared.colour.Px.{Px}
use Rattle.blend_rules.specs.Colour.{colour_from}
use Rattle.blend_rules.specs.Pixels.{pixels, written}
use Rattle.image_store.specs.Bands.{HasPixels, IsBand, IsSplit, opaque_count, woven}
use Rattle.blend_rules.specs.declared.plane.Plane.TheVariants.{B, G, R, A}
use Rattle.image_store.proofs.Lists.{length-listed}
use Rattle.image_store.proofs.Weaving.{length-woven}
use Rattle.image_store.proofs.Bands.{woven_written, band_written}

-- what is written over the whole
pub written_whole : (old new : List Px) → length old ≡ length new → written old 0 new ≡ new
written_whole old new e =
    let d : drop (0 + length new) old ≡ [] = drop_all (0 + length new) old (omega arith) in
    ap (λ l. new ++ l) d ∙ append-nil new

-- each of some zeros
zero_at : (n i : ℕ) → ◌≡◌ {A = ℕ} (get_or (replicate n 0) i 0) 0
zero_at zero i = refl
zero_at (suc n) zero = refl
zero_at (suc n) (suc i) = zero_at n i

module _ (bytes blank blue green red alpha : List ℕ) (is_blank : blank ≡ replicate (length bytes / 4) 0)
    (sb : IsSplit B bytes 0 blank blue) (sg : IsSplit G bytes 0 blank green) (sr : IsSplit R bytes 0 blank red) (sa : IsSplit A bytes 0 blank alpha) where
  long : length blank ≡ length bytes / 4
  long = ap length is_blank ∙ length-replicate (length bytes / 4) 0

  blank_byte : (i : ℕ) → get_or blank i 0 < 2 ^ 8
  blank_byte i = let e : get_or blank i 0 ≡ 0 = ap (λ l. get_or l i 0) is_blank ∙ zero_at (length bytes / 4) i in omega arith

  band_blank : IsBand blank blank blank blank (opaque_count blank)
  band_blank = record { green_fits = refl; red_fits = refl; alpha_fits = refl; blue_below = λ i. omega arith; green_below = λ i. omega arith; red_below = λ i. omega arith; byte = λ i. blank_byte i; counted = refl }

  pub woven_new : HasPixels (pixels bytes) → woven blue green red alpha ≡ pixels bytes
  woven_new h =
      let l = long in let w = length-woven blank blank blank blank in let p = length-listed (length bytes / 4) (λ i. colour_from bytes (4 * i)) in
      woven_written bytes 0 blank blank blank blank blue green red alpha sb sg sr sa (omega arith) h ∙ written_whole (woven blank blank blank blank) (pixels bytes) (omega arith)

  pub band_new : (count : ℕ) → ((i : ℕ) → i < length bytes / 4 → (colour_from bytes (4 * i)).a < 2 ^ 8) → count ≡ opaque_count (take (length bytes / 4) (drop 0 alpha)) → IsBand blue green red alpha count
  band_new count p c =
      let b = band_written bytes 0 blank blank blank blank blue green red alpha sb sg sr sa (opaque_count blank) _ _ band_blank p refl refl in
      record { green_fits = b.green_fits; red_fits = b.red_fits; alpha_fits = b.alpha_fits; blue_below = b.blue_below; green_below = b.green_below; red_below = b.red_below; byte = b.byte; counted = c ∙ ap opaque_count (take_all (length bytes / 4) alpha (let l = sa.long in let b = long in omega arith)) }
