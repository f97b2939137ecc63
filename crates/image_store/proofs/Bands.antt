-- Bands: whether they are opaque, and what writing leaves.
use Rattle.std.proofs.Common.{◌≡◌, ℕ, ◌+◌, ◌-◌, ◌*◌, ◌/◌, ◌<◌, ◌≤◌, ◌^◌, min, inl, inr, IsTrue, eqb, ◌↔◌, List, length, take, drop, get_or, subst, ap, ◌∙◌, sym, arith}
use Rattle.std.proofs.lemmas.Bool.{cases_lt, eqb-true, eq-eqb}
use Rattle.std.proofs.lemmas.List.{get_or-take, get_or-drop, get_or_past}
use Rattle.blend_rules.specs.declared.colour.Px.{Px}
use Rattle.blend_rules.specs.Colour.{IsPixel, clear, colour_from}
use Rattle.blend_rules.specs.Pixels.{nth_pixel, pixels, written}
use Rattle.image_store.specs.Bands.{cut, HasPixels, IsBand, IsSplit, opaque_count, woven}
use Rattle.blend_rules.specs.declared.plane.Plane.{Plane}
use Rattle.blend_rules.specs.declared.plane.Plane.TheVariants.{B, G, R, A}
use Rattle.image_store.proofs.Lists.{length-listed, listed_at, same_texels, length-written, written_inside, written_below, written_above}
use Rattle.image_store.proofs.Checking.{clear_is, read_pixels}
use Rattle.image_store.proofs.Places.{place}
use Rattle.image_store.proofs.Weaving.{length-woven, woven_at}
use Rattle.image_store.proofs.OpaqueCounts.{opaque_parts, all_solid, solid_all}

-- ---- one plane
module _ (plane : Plane) (bytes : List ℕ) (at : ℕ) (old new : List ℕ) (s : IsSplit plane bytes at old new) where
  pub split_below : (i : ℕ) → i < at → get_or new i 0 ≡ get_or old i 0
  split_below i h = sym (get_or-take at new i 0 h) ∙ ap (λ l. get_or l i 0) s.below ∙ get_or-take at old i 0 h

  pub split_above : (i : ℕ) → at + length bytes / 4 ≤ i → get_or new i 0 ≡ get_or old i 0
  split_above i h =
      let e : at + length bytes / 4 + (i - (at + length bytes / 4)) ≡ i = omega arith in
      ap (λ k. get_or new k 0) (sym e) ∙ sym (get_or-drop (at + length bytes / 4) new (i - (at + length bytes / 4)) 0)
      ∙ ap (λ l. get_or l (i - (at + length bytes / 4)) 0) s.above
      ∙ get_or-drop (at + length bytes / 4) old (i - (at + length bytes / 4)) 0 ∙ ap (λ k. get_or old k 0) e

le_along : (a b c d : ℕ) → a ≡ b → c ≡ d → b ≤ d → a ≤ c
le_along a b c d p q h = omega arith

-- what is cut doesn't exceed the alpha, which is never cut; a pixel's bytes aren't cut
cut_below : (plane : Plane) (p : Px) → cut plane p ≤ cut A p
cut_below plane p = omega arith

pub cut_alpha : (p : Px) → cut A p ≡ p.a
cut_alpha p = omega arith

uncut : (n a : ℕ) → n ≤ a → min n a ≡ n
uncut n a h = omega arith

-- where no byte of the old plane exceeds its alpha, none of the new one does
below_kept : (plane : Plane) (bytes : List ℕ) (at : ℕ) (old new olda newa : List ℕ) → IsSplit plane bytes at old new → IsSplit A bytes at olda newa
    → ((i : ℕ) → get_or old i 0 ≤ get_or olda i 0) → (i : ℕ) → get_or new i 0 ≤ get_or newa i 0
below_kept plane bytes at old new olda newa s t h i = elim (place at (length bytes / 4) i) [
  | inl l ↦ le_along _ _ _ _ (split_below plane bytes at old new s i l) (split_below A bytes at olda newa t i l) (h i)
  | inr (inl (k, l, e)) ↦ le_along _ _ _ _ (ap (λ j. get_or new j 0) (sym e) ∙ s.inside k l) (ap (λ j. get_or newa j 0) (sym e) ∙ t.inside k l) (cut_below plane (colour_from bytes (4 * k)))
  | inr (inr l) ↦ le_along _ _ _ _ (split_above plane bytes at old new s i l) (split_above A bytes at olda newa t i l) (h i)
]

lt_along : (a b n : ℕ) → a ≡ b → b < n → a < n
lt_along a b n p h = omega arith

bytes_kept : (bytes : List ℕ) (at : ℕ) (old new : List ℕ) → IsSplit A bytes at old new → ((i : ℕ) → get_or old i 0 < 2 ^ 8) → ((i : ℕ) → i < length bytes / 4 → (colour_from bytes (4 * i)).a < 2 ^ 8) → (i : ℕ) → get_or new i 0 < 2 ^ 8
bytes_kept bytes at old new s h p i = elim (place at (length bytes / 4) i) [
  | inl l ↦ lt_along _ _ _ (split_below A bytes at old new s i l) (h i)
  | inr (inl (k, l, e)) ↦ lt_along _ _ _ (ap (λ j. get_or new j 0) (sym e) ∙ s.inside k l ∙ cut_alpha (colour_from bytes (4 * k))) (p k l)
  | inr (inr l) ↦ lt_along _ _ _ (split_above A bytes at old new s i l) (h i)
]

pub same_px : (b b' g g' r r' a a' : ℕ) → b ≡ b' → g ≡ g' → r ≡ r' → a ≡ a' → let p : Px = record { b = b; g = g; r = r; a = a } in p ≡ record { b = b'; g = g'; r = r'; a = a' }
same_px b b' g g' r r' a a' e f h k = cc

-- ---- four planes
module _ (bytes : List ℕ) (at : ℕ) (blue green red alpha blue' green' red' alpha' : List ℕ)
    (sb : IsSplit B bytes at blue blue') (sg : IsSplit G bytes at green green') (sr : IsSplit R bytes at red red') (sa : IsSplit A bytes at alpha alpha') where
  abbrev old : List Px
  old = woven blue green red alpha

  abbrev new : List Px
  new = woven blue' green' red' alpha'

  count_of : length (pixels bytes) ≡ length bytes / 4
  count_of = length-listed (length bytes / 4) (λ i. colour_from bytes (4 * i))

  at_new : (room : at + length bytes / 4 ≤ length blue) → HasPixels (pixels bytes) → (i : ℕ) → i < length blue' → nth_pixel new i ≡ nth_pixel (written old at (pixels bytes)) i
  at_new room p i h =
      let c = count_of in let o = length-woven blue green red alpha in
      let fits : at + length (pixels bytes) ≤ length old = omega arith in
      let within : i < length blue = omega (arith, sb.long) in
      woven_at blue' green' red' alpha' i h ∙ elim (place at (length bytes / 4) i) [
        | inl l ↦ same_px _ _ _ _ _ _ _ _ (split_below B bytes at blue blue' sb i l) (split_below G bytes at green green' sg i l) (split_below R bytes at red red' sr i l) (split_below A bytes at alpha alpha' sa i l)
            ∙ sym (woven_at blue green red alpha i within) ∙ sym (written_below old at (pixels bytes) fits i l)
        | inr (inl (k, l, e)) ↦ same_px _ _ _ _ _ _ _ _ (ap (λ j. get_or blue' j 0) (sym e) ∙ sb.inside k l ∙ uncut _ _ (read_pixels bytes p k l).premultiplied.blue)
            (ap (λ j. get_or green' j 0) (sym e) ∙ sg.inside k l ∙ uncut _ _ (read_pixels bytes p k l).premultiplied.green) (ap (λ j. get_or red' j 0) (sym e) ∙ sr.inside k l ∙ uncut _ _ (read_pixels bytes p k l).premultiplied.red)
            (ap (λ j. get_or alpha' j 0) (sym e) ∙ sa.inside k l ∙ cut_alpha (colour_from bytes (4 * k)))
            ∙ sym (listed_at (length bytes / 4) (λ j. colour_from bytes (4 * j)) k l) ∙ sym (written_inside old at (pixels bytes) fits k (omega arith)) ∙ ap (λ j. nth_pixel (written old at (pixels bytes)) j) e
        | inr (inr l) ↦ same_px _ _ _ _ _ _ _ _ (split_above B bytes at blue blue' sb i l) (split_above G bytes at green green' sg i l) (split_above R bytes at red red' sr i l) (split_above A bytes at alpha alpha' sa i l)
            ∙ sym (woven_at blue green red alpha i within) ∙ sym (written_above old at (pixels bytes) fits i (omega arith))
      ]

  pub woven_written : at + length bytes / 4 ≤ length blue → HasPixels (pixels bytes) → new ≡ written old at (pixels bytes)
  woven_written room p =
      let c = count_of in let o = length-woven blue green red alpha in let n = length-woven blue' green' red' alpha' in
      let w = length-written old at (pixels bytes) (omega arith) in
      same_texels new (written old at (pixels bytes)) (omega (arith, sb.long)) (λ i h. at_new room p i (omega arith))

  pub band_written : (count gone come : ℕ) → IsBand blue green red alpha count → ((i : ℕ) → i < length bytes / 4 → (colour_from bytes (4 * i)).a < 2 ^ 8)
      → gone ≡ opaque_count (take (length bytes / 4) (drop at alpha)) → come ≡ opaque_count (take (length bytes / 4) (drop at alpha'))
      → IsBand blue' green' red' alpha' (count - gone + come)
  band_written count gone come b p g c =
      record {
        green_fits = sg.long ∙ b.green_fits ∙ sym sb.long;
        red_fits = sr.long ∙ b.red_fits ∙ sym sb.long;
        alpha_fits = sa.long ∙ b.alpha_fits ∙ sym sb.long;
        blue_below = below_kept B bytes at blue blue' alpha alpha' sb sa b.blue_below;
        green_below = below_kept G bytes at green green' alpha alpha' sg sa b.green_below;
        red_below = below_kept R bytes at red red' alpha alpha' sr sa b.red_below;
        byte = bytes_kept bytes at alpha alpha' sa b.byte p;
        counted =
            let o = opaque_parts at (length bytes / 4) alpha in let n = opaque_parts at (length bytes / 4) alpha' in
            let f : opaque_count (take at alpha') ≡ opaque_count (take at alpha) = ap opaque_count sa.below in
            let l : opaque_count (drop (at + length bytes / 4) alpha') ≡ opaque_count (drop (at + length bytes / 4) alpha) = ap opaque_count sa.above in
            omega (arith, b.counted);
      }

-- ---- pixels
pub band_pixels : (blue green red alpha : List ℕ) (count : ℕ) → IsBand blue green red alpha count → HasPixels (woven blue green red alpha)
band_pixels blue green red alpha count b i = elim (cases_lt i (length blue)) [
  | inl h ↦ subst IsPixel (sym (woven_at blue green red alpha i h)) (record { premultiplied = record { blue = b.blue_below i; green = b.green_below i; red = b.red_below i }; byte = b.byte i })
  | inr h ↦ subst IsPixel (sym (get_or_past (woven blue green red alpha) i clear (omega (arith, length-woven blue green red alpha)))) clear_is
]

-- ---- opaque
pub opaque_is : (blue green red alpha : List ℕ) (count len : ℕ) → IsBand blue green red alpha count → len ≡ length alpha
    → IsTrue (eqb count len) ↔ ((i : ℕ) → i < length (woven blue green red alpha) → (nth_pixel (woven blue green red alpha) i).a ≡ 255)
opaque_is blue green red alpha count len b l =
    let w = length-woven blue green red alpha in (
      (λ t i h. let e : count ≡ len = search (eqb-true count len) in
          ap (λ (p : Px). p.a) (woven_at blue green red alpha i (omega arith)) ∙ all_solid alpha (sym b.counted ∙ e ∙ l) i (omega (arith, b.alpha_fits))),
      (λ f. let s = solid_all alpha (λ i h. sym (ap (λ (p : Px). p.a) (woven_at blue green red alpha i (omega (arith, b.alpha_fits)))) ∙ f i (omega (arith, b.alpha_fits))) in
          let e : count ≡ len = b.counted ∙ s ∙ sym l in search (eq-eqb count len e)),
    )
