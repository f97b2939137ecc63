-- A write to a part of a row, byte by byte.
use Rattle.std.proofs.Common.{◌≡◌, ◌≢◌, ℕ, ◌+◌, ◌-◌, ◌*◌, ◌<◌, ◌≤◌, ◌⊎◌, List, ◌++◌, length, take, drop, get_or, inl, inr, refl, sym, ap, append_assoc, arith, ◌∙◌}
use Rattle.std.proofs.lemmas.List.{get_or-append_right, get_or_append_left, get_or-take, get_or-drop, take_at, drop-drop, length-take-le, length-drop, length-append}
use Rattle.std.proofs.lemmas.Nat.{mul-le}
use Rattle.std.proofs.lemmas.Bool.{cases_order}
use Rattle.blend_rules.specs.Pixels.{written}
use Rattle.blend_rules.specs.declared.plane.Plane.{Plane}
use Rattle.blend_rules.specs.declared.plane.Plane.TheVariants.{B, G, R, A}
use Rattle.span_kernels.specs.PlanesModel.{PlanesModel, overwritten, byte_at, with_part, plane_of, with_plane, index_of}
use Rattle.span_kernels.specs.Parts.{IsPartWritten, PartIsWritten}

module _ (old : List ℕ) (at : ℕ) (new : List ℕ) (fits : at + length new ≤ length old) where
  -- the list with the part put in
  abbrev spliced : List ℕ
  spliced = take at old ++ (new ++ drop (length new) (drop at old))

  length-spliced : length spliced ≡ length old
  length-spliced =
      let a = length-append (take at old) (new ++ drop (length new) (drop at old)) in let b = length-append new (drop (length new) (drop at old)) in
      let c = length-take-le at old (omega arith) in let d = length-drop (length new) (drop at old) in let e = length-drop at old in omega arith

  overwritten_is : overwritten old at new ≡ spliced
  overwritten_is = take_at spliced (drop (length spliced) old) (length old) length-spliced

  pub fitting_is_written : overwritten old at new ≡ written old at new
  fitting_is_written = overwritten_is ∙ ap (λ rest. take at old ++ (new ++ rest)) (drop-drop (length new) at old) ∙ sym (append_assoc (take at old) new (drop (at + length new) old))

  pub length-overwritten : length (overwritten old at new) ≡ length old
  length-overwritten = ap length overwritten_is ∙ length-spliced

  pub overwritten_inside : (k : ℕ) → k < length new → get_or (overwritten old at new) (at + k) 0 ≡ get_or new k 0
  overwritten_inside k h =
      let first = length-take-le at old (omega arith) in let back : at + k - at ≡ k = omega arith in
      ap (λ l. get_or l (at + k) 0) overwritten_is
      ∙ get_or-append_right (take at old) (new ++ drop (length new) (drop at old)) at (at + k) 0 first (omega arith)
      ∙ ap (λ i. get_or (new ++ drop (length new) (drop at old)) i 0) back
      ∙ get_or_append_left new (drop (length new) (drop at old)) 0 k h

  overwritten_below : (k : ℕ) → k < at → get_or (overwritten old at new) k 0 ≡ get_or old k 0
  overwritten_below k h =
      let first = length-take-le at old (omega arith) in
      ap (λ l. get_or l k 0) overwritten_is
      ∙ get_or_append_left (take at old) (new ++ drop (length new) (drop at old)) 0 k (omega arith)
      ∙ get_or-take at old k 0 h

  overwritten_above : (k : ℕ) → at + length new ≤ k → get_or (overwritten old at new) k 0 ≡ get_or old k 0
  overwritten_above k h =
      let first = length-take-le at old (omega arith) in
      let on : at + (length new + (k - at - length new)) ≡ k = omega arith in
      ap (λ l. get_or l k 0) overwritten_is
      ∙ get_or-append_right (take at old) (new ++ drop (length new) (drop at old)) at k 0 first (omega arith)
      ∙ get_or-append_right new (drop (length new) (drop at old)) (length new) (k - at) 0 refl (omega arith)
      ∙ get_or-drop (length new) (drop at old) (k - at - length new) 0
      ∙ get_or-drop at old (length new + (k - at - length new)) 0
      ∙ ap (λ i. get_or old i 0) on

  pub overwritten_else : (k : ℕ) → (k < at) ⊎ (at + length new ≤ k) → get_or (overwritten old at new) k 0 ≡ get_or old k 0
  overwritten_else k (inl h) = overwritten_below k h
  overwritten_else k (inr h) = overwritten_above k h

row_more : (b w : ℕ) → (b + 1) * w ≡ b * w + w
row_more b w = omega arith

-- two bytes of different rows, or of one row, are apart as their pixels are
apart : (w x n y a b : ℕ) → x + n ≤ w → a < w → (b ≢ y) ⊎ (a < x) ⊎ (x + n ≤ a) → (b * w + a < y * w + x) ⊎ (y * w + x + n ≤ b * w + a)
apart w x n y a b fits h far = elim (cases_order b y) [
  | inl same ↦ rw same (elim far [
    | inl other ↦ absurd (other same)
    | inr (inl below) ↦ inl (omega arith)
    | inr (inr above) ↦ inr (omega arith)
  ])
  | inr (inl less) ↦ let m = mul-le (b + 1) w y w (omega arith) (omega arith) in let n = row_more b w in inl (omega arith)
  | inr (inr more) ↦ let m = mul-le (y + 1) w b w (omega arith) (omega arith) in let n = row_more y w in inr (omega arith)
]

module _ (planes : PlanesModel) (bytes : List ℕ) where
  plane_with : (p : Plane) → plane_of p (with_plane p bytes planes) ≡ bytes
  plane_with B = refl
  plane_with G = refl
  plane_with R = refl
  plane_with A = refl

  pub width_with : (p : Plane) → (with_plane p bytes planes).width ≡ planes.width
  width_with B = refl
  width_with G = refl
  width_with R = refl
  width_with A = refl

  pub height_with : (p : Plane) → (with_plane p bytes planes).height ≡ planes.height
  height_with B = refl
  height_with G = refl
  height_with R = refl
  height_with A = refl

  plane_else : (p q : Plane) → q ≢ p → plane_of q (with_plane p bytes planes) ≡ plane_of q planes
  plane_else B B other = absurd (other refl)
  plane_else B G other = refl
  plane_else B R other = refl
  plane_else B A other = refl
  plane_else G B other = refl
  plane_else G G other = absurd (other refl)
  plane_else G R other = refl
  plane_else G A other = refl
  plane_else R B other = refl
  plane_else R G other = refl
  plane_else R R other = absurd (other refl)
  plane_else R A other = refl
  plane_else A B other = refl
  plane_else A G other = refl
  plane_else A R other = refl
  plane_else A A other = absurd (other refl)

  -- planes of one length each stay so
  pub lengths_with : (n : ℕ) (p : Plane) → length bytes ≡ n → ((q : Plane) → length (plane_of q planes) ≡ n) → (q : Plane) → length (plane_of q (with_plane p bytes planes)) ≡ n
  lengths_with n B h each B = h
  lengths_with n B h each G = each G
  lengths_with n B h each R = each R
  lengths_with n B h each A = each A
  lengths_with n G h each B = each B
  lengths_with n G h each G = h
  lengths_with n G h each R = each R
  lengths_with n G h each A = each A
  lengths_with n R h each B = each B
  lengths_with n R h each G = each G
  lengths_with n R h each R = h
  lengths_with n R h each A = each A
  lengths_with n A h each B = each B
  lengths_with n A h each G = each G
  lengths_with n A h each R = each R
  lengths_with n A h each A = h

module _ (planes : PlanesModel) (p : Plane) (y x : ℕ) (bytes : List ℕ) (long : length (plane_of p planes) ≡ planes.height * planes.width) (row : y < planes.height) (fits : x + length bytes ≤ planes.width) where
  abbrev after : PlanesModel
  after = with_part p y x bytes planes

  inner : index_of planes x y + length bytes ≤ length (plane_of p planes)
  inner = let m = mul-le (y + 1) planes.width planes.height planes.width (omega arith) (omega arith) in let n = row_more y planes.width in omega arith

  now_at : (a b : ℕ) → byte_at p after a b ≡ get_or (overwritten (plane_of p planes) (index_of planes x y) bytes) (index_of planes a b) 0
  now_at a b = rw (plane_with planes (overwritten (plane_of p planes) (index_of planes x y) bytes) p, width_with planes (overwritten (plane_of p planes) (index_of planes x y) bytes) p)

  pub part_written : IsPartWritten planes after p y x bytes
  part_written = record {
    width = width_with planes _ p;
    height = height_with planes _ p;
    inside = λ k h. let at : index_of planes (x + k) y ≡ index_of planes x y + k = omega arith in now_at (x + k) y ∙ ap (λ n. get_or (overwritten (plane_of p planes) (index_of planes x y) bytes) n 0) at ∙ overwritten_inside (plane_of p planes) (index_of planes x y) bytes inner k h;
    outside = λ a b h far. now_at a b ∙ overwritten_else (plane_of p planes) (index_of planes x y) bytes inner (index_of planes a b) (apart planes.width x (length bytes) y a b fits h far);
    others = λ q other. plane_else planes _ p q other;
    whole = λ w. record {
      wide = rw (width_with planes (overwritten (plane_of p planes) (index_of planes x y) bytes) p) w.wide;
      high = rw (height_with planes (overwritten (plane_of p planes) (index_of planes x y) bytes) p) w.high;
      each = λ q. rw (width_with planes (overwritten (plane_of p planes) (index_of planes x y) bytes) p, height_with planes (overwritten (plane_of p planes) (index_of planes x y) bytes) p) (lengths_with planes (overwritten (plane_of p planes) (index_of planes x y) bytes) (planes.height * planes.width) p (length-overwritten (plane_of p planes) (index_of planes x y) bytes inner ∙ long) w.each q);
    };
  }

pub part_is_written : PartIsWritten
part_is_written planes plane y x bytes w row fits = part_written planes plane y x bytes (w.each plane) row fits
