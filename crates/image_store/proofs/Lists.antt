-- Lists of colours, place by place.
use Rattle.std.proofs.Common.{◌≡◌, ℕ, ◌+◌, ◌-◌, ◌*◌, ◌/◌, ◌<◌, ◌≤◌, List, ◌++◌, length, take, drop, get_or, ap, ◌∙◌, arith}
use Rattle.std.proofs.lemmas.List.{length-append, length-drop, length-take-le, get_or-append_right, get_or_append_left, get_or-take, get_or-drop, ext_get_or}
use Rattle.std.proofs.lemmas.List.FromFn.{length-map-range_with_len, get_or-map-range_with_len, fill_by_all}
use Rattle.blend_rules.specs.declared.colour.Px.{Px}
use Rattle.blend_rules.specs.Colour.{clear, colour_from}
use Rattle.blend_rules.specs.Pixels.{listed, nth_pixel, pixels, written}

pub length-listed : (n : ℕ) (f : ℕ → Px) → length (listed n f) ≡ n
unfolding listed
length-listed n f = length-map-range_with_len f 0 n

pub listed_at : (n : ℕ) (f : ℕ → Px) (i : ℕ) → i < n → nth_pixel (listed n f) i ≡ f i
unfolding listed
listed_at n f i h = get_or-map-range_with_len f 0 n i i clear h (omega arith)

pub is_listed : (n : ℕ) (f : ℕ → Px) (xs : List Px) → length xs ≡ n → ((i : ℕ) → i < n → nth_pixel xs i ≡ f i) → xs ≡ listed n f
unfolding listed
is_listed n f xs l e = fill_by_all f xs n clear l e

pub same_texels : (xs ys : List Px) → length xs ≡ length ys → ((i : ℕ) → i < length xs → nth_pixel xs i ≡ nth_pixel ys i) → xs ≡ ys
same_texels xs ys l e = ext_get_or clear xs ys l e

module _ (old : List Px) (at : ℕ) (new : List Px) (fits : at + length new ≤ length old) where
  front : length (take at old) ≡ at
  front = length-take-le at old (omega arith)

  pub length-written : length (written old at new) ≡ length old
  length-written =
      let a = length-append (take at old ++ new) (drop (at + length new) old) in let b = length-append (take at old) new in
      let c = front in let d = length-drop (at + length new) old in omega arith

  length-both : length (take at old ++ new) ≡ at + length new
  length-both = let b = length-append (take at old) new in let c = front in omega arith

  pub written_inside : (i : ℕ) → i < length new → nth_pixel (written old at new) (at + i) ≡ nth_pixel new i
  written_inside i h =
      get_or_append_left (take at old ++ new) (drop (at + length new) old) clear (at + i) (omega (arith, length-both))
      ∙ get_or-append_right (take at old) new at (at + i) clear front (omega arith)
      ∙ ap (λ k. get_or new k clear) (omega arith)

  pub written_below : (i : ℕ) → i < at → nth_pixel (written old at new) i ≡ nth_pixel old i
  written_below i h =
      get_or_append_left (take at old ++ new) (drop (at + length new) old) clear i (omega (arith, length-both))
      ∙ get_or_append_left (take at old) new clear i (omega (arith, front))
      ∙ get_or-take at old i clear h

  pub written_above : (i : ℕ) → at + length new ≤ i → nth_pixel (written old at new) i ≡ nth_pixel old i
  written_above i h =
      get_or-append_right (take at old ++ new) (drop (at + length new) old) (at + length new) i clear length-both h
      ∙ get_or-drop (at + length new) old (i - (at + length new)) clear
      ∙ ap (λ k. get_or old k clear) (omega arith)

pub length-pixels : (bytes : List ℕ) → length (pixels bytes) ≡ length bytes / 4
length-pixels bytes = length-listed (length bytes / 4) (λ i. colour_from bytes (4 * i))

pub ruleset lengths = (length-written, length-pixels)
