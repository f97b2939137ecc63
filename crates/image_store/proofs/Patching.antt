-- A rectangle of colours, row by row.
use Rattle.std.proofs.Common.{◌≡◌, ℕ, ◌+◌, ◌-◌, ◌*◌, ◌/◌, ◌%◌, ◌<◌, ◌≤◌, max, ◌↔◌, ◌⊎◌, inl, inr, Bool, true, false, ◌&&◌, ltb, leb, if◌then◌else◌, List, length, take, drop, get_or, subst, ap, ◌∙◌, sym, refl, arith}
use Rattle.std.proofs.lemmas.Bool.{cases_lt, lt-ltb, le-ltb, le-leb, lt-leb}
use Rattle.std.proofs.lemmas.Nat.{mul-le}
use Rattle.std.proofs.lemmas.List.{length-take-le, length-drop, get_or-take, get_or-drop, drop-drop, get_or_past}
use Rattle.blend_rules.specs.Colour.{IsPixel, clear, colour_from}
use Rattle.blend_rules.specs.Pixels.{nth_pixel, pixels, written}
use Rattle.image_store.specs.Bands.{HasPixels, with_row}
use Rattle.image_store.specs.Models.{ImageModel, texel_of}
use Rattle.image_store.specs.Patches.{is_inside, patched, patched_texel, rows_of}
use Rattle.blend_rules.specs.declared.colour.Px.{Px}
use Rattle.image_store.specs.declared.patch.Patch.{Patch}
use Rattle.image_store.proofs.Lists.{length-pixels, listed_at, is_listed, length-written, written_inside, written_below, written_above}
use Rattle.image_store.proofs.Bands.{same_px}
use Rattle.image_store.proofs.Checking.{none_sound}

-- ---- the test
inside_true : (p : Patch) (x y : ℕ) → p.x ≤ x → x < p.x + p.w → p.y ≤ y → y < p.y + p.h → is_inside p x y ≡ true
inside_true p x y a b c d = let e = le-leb p.x x a in let f = lt-ltb x (p.x + p.w) b in let g = le-leb p.y y c in let h = lt-ltb y (p.y + p.h) d in rw (e, f, g, h)

and_false : (t : Bool) → (t && false) ≡ false
and_false true = refl
and_false false = refl

inside_false : (p : Patch) (x y : ℕ) → (x < p.x) ⊎ (p.x + p.w ≤ x) ⊎ (y < p.y) ⊎ (p.y + p.h ≤ y) → is_inside p x y ≡ false
inside_false p x y (inl h) = let e = lt-leb p.x x h in rw e
inside_false p x y (inr (inl h)) = let e = le-ltb x (p.x + p.w) h in rw (e, and_false (leb p.x x))
inside_false p x y (inr (inr (inl h))) = let e = lt-leb p.y y h in rw (e, and_false (leb p.x x && ltb x (p.x + p.w)))
inside_false p x y (inr (inr (inr h))) = let e = le-ltb y (p.y + p.h) h in rw (e, and_false (leb p.x x && ltb x (p.x + p.w) && leb p.y y))

pub texel_inside : (p : Patch) (new : List Px) (old : ImageModel) (x y : ℕ) → p.x ≤ x → x < p.x + p.w → p.y ≤ y → y < p.y + p.h → patched_texel p new old x y ≡ nth_pixel new ((y - p.y) * p.w + (x - p.x))
texel_inside p new old x y a b c d = ap (λ t. if t then nth_pixel new ((y - p.y) * p.w + (x - p.x)) else texel_of old x y) (inside_true p x y a b c d)

pub texel_outside : (p : Patch) (new : List Px) (old : ImageModel) (x y : ℕ) → (x < p.x) ⊎ (p.x + p.w ≤ x) ⊎ (y < p.y) ⊎ (p.y + p.h ≤ y) → patched_texel p new old x y ≡ texel_of old x y
texel_outside p new old x y h = ap (λ t. if t then nth_pixel new ((y - p.y) * p.w + (x - p.x)) else texel_of old x y) (inside_false p x y h)

-- ---- columns and rows
div_back : (i w : ℕ) → 0 < w → i / w * w + i % w ≡ i
div_back i w h = let e : w * (i / w) ≡ i / w * w = omega arith in omega arith

module _ (w h : ℕ) (f : ℕ → ℕ → Px) (texels : List Px) (e : (x y : ℕ) → x < w → y < h → nth_pixel texels (y * w + x) ≡ f x y) where
  wide : (i : ℕ) → i < h * w → 0 < w
  wide i b = elim (cases_lt 0 w) [
    | inl l ↦ l
    | inr n ↦ let z : w ≡ 0 = omega arith in let k : h * w ≡ 0 = ap (λ j. h * j) z ∙ (omega arith) in absurd (omega arith)
  ]

  row_of : (i : ℕ) → i < h * w → i / w < h
  row_of i b = elim (cases_lt (i / w) h) [
    | inl l ↦ l
    | inr n ↦ let z = wide i b in let m = mul-le h w (i / w) w n (omega arith) in let d : i / w * w + i % w ≡ i = div_back i w z in absurd (omega arith)
  ]

  at_place : (i : ℕ) → i < h * w → nth_pixel texels i ≡ f (i % w) (i / w)
  at_place i b =
      let z = wide i b in let d : i / w * w + i % w ≡ i = div_back i w z in
      ap (λ j. nth_pixel texels j) (sym d) ∙ e (i % w) (i / w) (omega arith) (row_of i b)

  pub is_drawn : length texels ≡ h * w → texels ≡ rows_of w h f
  is_drawn l = is_listed (h * w) (λ i. f (i % w) (i / w)) texels l at_place

-- two places of different rows, or of one row, are apart as their columns and rows are
row_more : (b w : ℕ) → (b + 1) * w ≡ b * w + w
row_more b w = omega arith

apart : (w x n y a b : ℕ) → x + n ≤ w → a < w → (b < y) ⊎ (y < b) ⊎ ((b ≡ y) × (a < x)) ⊎ ((b ≡ y) × (x + n ≤ a)) → (b * w + a < y * w + x) ⊎ (y * w + x + n ≤ b * w + a)
apart w x n y a b fits h (inl less) = let m = mul-le (b + 1) w y w (omega arith) (omega arith) in let k = row_more b w in inl (omega arith)
apart w x n y a b fits h (inr (inl more)) = let m = mul-le (y + 1) w b w (omega arith) (omega arith) in let k = row_more y w in inr (omega arith)
apart w x n y a b fits h (inr (inr (inl (e, l)))) = let m : b * w ≡ y * w = ap (λ r. r * w) e in inl (omega arith)
apart w x n y a b fits h (inr (inr (inr (e, l)))) = let m : b * w ≡ y * w = ap (λ r. r * w) e in inr (omega arith)

-- ---- the rows so far
abbrev pub upto : Patch → ℕ → Patch
upto p rows = record p { h = rows }

-- the first rows of a rectangle are written, and the bytes of the others are left
pub record IsPatchedTo (p : Patch) (old : ImageModel) (bytes : List ℕ) (rows : ℕ) (now : ImageModel) (rest : List ℕ) : Type 0 where
  pub same : now ≡ record old { texels = now.texels }
  pub whole : length now.texels ≡ old.h * old.w
  pub done : (x y : ℕ) → x < old.w → y < old.h → nth_pixel now.texels (y * old.w + x) ≡ patched_texel (upto p rows) (pixels bytes) old x y
  pub left : rest ≡ drop (rows * (4 * p.w)) bytes

nought : (n : ℕ) → 0 ≡ 0 * n
nought n = omega arith

pub patched_none : (p : Patch) (old : ImageModel) (bytes : List ℕ) → length old.texels ≡ old.h * old.w → IsPatchedTo p old bytes 0 old bytes
patched_none p old bytes l = record {
  same = refl;
  whole = l;
  done = λ x y a b. sym (texel_outside (upto p 0) (pixels bytes) old x y (elim (cases_lt y p.y) [ inl h ↦ inr (inr (inl h)) | inr h ↦ inr (inr (inr (omega arith))) ]));
  left = ap (λ n. drop n bytes) (nought (4 * p.w));
}

pub patched_all : (p : Patch) (old now : ImageModel) (bytes rest : List ℕ) → IsPatchedTo p old bytes p.h now rest → now ≡ patched p (pixels bytes) old
patched_all p old now bytes rest d = d.same ∙ ap (λ t. let r : ImageModel = record old { texels = t } in r) (is_drawn old.w old.h (patched_texel p (pixels bytes) old) now.texels d.done d.whole)

same_after : (old now after : ImageModel) (texels : List Px) → now ≡ record old { texels = now.texels } → after ≡ record now { texels = texels } → after ≡ record old { texels = after.texels }
same_after old now after texels s e =
    e ∙ ap (λ t. let r : ImageModel = record now { texels = t } in r) (sym (ap (λ (q : ImageModel). q.texels) e))
    ∙ ap (λ (q : ImageModel). let r : ImageModel = record q { texels = after.texels } in r) s

-- ---- the next row's bytes
module _ (p : Patch) (bytes : List ℕ) (rows : ℕ) (rest : List ℕ) (left : rest ≡ drop (rows * (4 * p.w)) bytes)
    (size : length bytes ≡ p.h * (4 * p.w)) (more : rows < p.h) where
  taken : rows * (4 * p.w) + 4 * p.w ≤ length bytes
  taken = let m = mul-le (rows + 1) (4 * p.w) p.h (4 * p.w) (omega arith) (omega arith) in omega arith

  rest_long : length rest ≡ length bytes - rows * (4 * p.w)
  rest_long = ap length left ∙ length-drop (rows * (4 * p.w)) bytes

  pub line_room : 4 * p.w ≤ length rest
  line_room = let t = taken in let l = rest_long in omega arith

  line_long : length (take (4 * p.w) rest) ≡ 4 * p.w
  line_long = length-take-le (4 * p.w) rest line_room

  line_texels : length (pixels (take (4 * p.w) rest)) ≡ p.w
  line_texels = length-pixels (take (4 * p.w) rest) ∙ (let l = line_long in omega arith)

  bytes_texels : length (pixels bytes) ≡ p.h * p.w
  bytes_texels = length-pixels bytes ∙ (let e : p.h * (4 * p.w) ≡ 4 * (p.h * p.w) = omega arith in omega arith)

  byte_of_line : (i : ℕ) → i < 4 * p.w → get_or (take (4 * p.w) rest) i 0 ≡ get_or bytes (rows * (4 * p.w) + i) 0
  byte_of_line i h = get_or-take (4 * p.w) rest i 0 h ∙ ap (λ l. get_or l i 0) left ∙ get_or-drop (rows * (4 * p.w)) bytes i 0

  byte_at : (i j : ℕ) → i < 4 * p.w → rows * (4 * p.w) + i ≡ j → get_or (take (4 * p.w) rest) i 0 ≡ get_or bytes j 0
  byte_at i j h e = byte_of_line i h ∙ ap (λ k. get_or bytes k 0) e

  -- a colour of the row is one of all
  line_texel : (i : ℕ) → i < p.w → nth_pixel (pixels (take (4 * p.w) rest)) i ≡ nth_pixel (pixels bytes) (rows * p.w + i)
  line_texel i h =
      let l = line_long in let t = taken in
      let n : rows * p.w + i < length bytes / 4 = (let e : rows * (4 * p.w) ≡ 4 * (rows * p.w) = omega arith in omega arith) in
      let k : rows * (4 * p.w) ≡ 4 * (rows * p.w) = omega arith in
      listed_at (length (take (4 * p.w) rest) / 4) (λ j. colour_from (take (4 * p.w) rest) (4 * j)) i (omega arith)
      ∙ same_px _ _ _ _ _ _ _ _ (byte_at (4 * i) (4 * (rows * p.w + i)) (omega arith) (omega arith)) (byte_at (4 * i + 1) (4 * (rows * p.w + i) + 1) (omega arith) (omega arith)) (byte_at (4 * i + 2) (4 * (rows * p.w + i) + 2) (omega arith) (omega arith)) (byte_at (4 * i + 3) (4 * (rows * p.w + i) + 3) (omega arith) (omega arith))
      ∙ sym (listed_at (length bytes / 4) (λ j. colour_from bytes (4 * j)) (rows * p.w + i) n)

  pub line_sound : HasPixels (pixels bytes) → HasPixels (pixels (take (4 * p.w) rest))
  line_sound f i = elim (cases_lt i p.w) [
    | inl h ↦ subst IsPixel (sym (line_texel i h)) (f (rows * p.w + i))
    | inr h ↦ subst IsPixel (sym (get_or_past (pixels (take (4 * p.w) rest)) i clear (omega (arith, line_texels)))) (none_sound i)
  ]

  -- colours are pixels up to the end of a row, where they are up to its begin and in it
  pub sound_more : ((k : ℕ) → k < rows * p.w → IsPixel (nth_pixel (pixels bytes) k)) → HasPixels (pixels (take (4 * p.w) rest)) → (k : ℕ) → k < (rows + 1) * p.w → IsPixel (nth_pixel (pixels bytes) k)
  sound_more before line k h = elim (cases_lt k (rows * p.w)) [
    | inl l ↦ before k l
    | inr l ↦ let e : rows * p.w + (k - rows * p.w) ≡ k = omega arith in
        subst IsPixel (ap (λ j. nth_pixel (pixels bytes) j) e) (subst IsPixel (line_texel (k - rows * p.w) (let m = row_more rows p.w in omega arith)) (line (k - rows * p.w)))
  ]

-- all are pixels, where those of all rows are
pub sound_all : (p : Patch) (bytes : List ℕ) → length bytes ≡ p.h * (4 * p.w) → ((k : ℕ) → k < p.h * p.w → IsPixel (nth_pixel (pixels bytes) k)) → HasPixels (pixels bytes)
sound_all p bytes size f i = elim (cases_lt i (p.h * p.w)) [
  | inl l ↦ f i l
  | inr l ↦ subst IsPixel (sym (get_or_past (pixels bytes) i clear (let n = length-pixels bytes in let e : p.h * (4 * p.w) ≡ 4 * (p.h * p.w) = omega arith in omega arith))) (none_sound i)
]

-- ---- a row more
module _ (p : Patch) (old : ImageModel) (bytes : List ℕ) (rows : ℕ) (now : ImageModel) (rest : List ℕ) (d : IsPatchedTo p old bytes rows now rest)
    (size : length bytes ≡ p.h * (4 * p.w)) (right : p.x + p.w ≤ old.w) (below : p.y + p.h ≤ old.h) (more : rows < p.h) where
  line_count : length (pixels (take (4 * p.w) rest)) ≡ p.w
  line_count = line_texels p bytes rows rest d.left size more

  abbrev at : ℕ
  at = (p.y + rows) * old.w + p.x

  fits : at + length (pixels (take (4 * p.w) rest)) ≤ length now.texels
  fits = let t = line_count in let w = d.whole in let m = mul-le (p.y + rows + 1) old.w old.h old.w (omega arith) (omega arith) in let n = row_more (p.y + rows) old.w in omega arith

  abbrev next : List Px
  next = written now.texels at (pixels (take (4 * p.w) rest))

  -- in the row and the columns of the rectangle
  here : (x : ℕ) → p.x ≤ x → x < p.x + p.w → nth_pixel next ((p.y + rows) * old.w + x) ≡ patched_texel (upto p (rows + 1)) (pixels bytes) old x (p.y + rows)
  here x l r =
      let t = line_count in
      ap (λ n. nth_pixel next n) (omega arith)
      ∙ written_inside now.texels at (pixels (take (4 * p.w) rest)) fits (x - p.x) (omega arith)
      ∙ line_texel p bytes rows rest d.left size more (x - p.x) (omega arith)
      ∙ ap (λ n. nth_pixel (pixels bytes) n) (let e : p.y + rows - p.y ≡ rows = omega arith in let f : (p.y + rows - p.y) * p.w ≡ rows * p.w = ap (λ n. n * p.w) e in omega arith)
      ∙ sym (texel_inside (upto p (rows + 1)) (pixels bytes) old x (p.y + rows) l r (omega arith) (omega arith))

  -- and elsewhere
  kept : (x y : ℕ) → x < old.w → y < old.h → (y < p.y + rows) ⊎ (p.y + rows < y) ⊎ ((y ≡ p.y + rows) × (x < p.x)) ⊎ ((y ≡ p.y + rows) × (p.x + p.w ≤ x)) → nth_pixel next (y * old.w + x) ≡ patched_texel (upto p rows) (pixels bytes) old x y
  kept x y a b far =
      let t = line_count in
      elim (apart old.w p.x p.w (p.y + rows) x y right a far) [
        | inl l ↦ written_below now.texels at (pixels (take (4 * p.w) rest)) fits (y * old.w + x) l ∙ d.done x y a b
        | inr m ↦ written_above now.texels at (pixels (take (4 * p.w) rest)) fits (y * old.w + x) (omega arith) ∙ d.done x y a b
      ]

  both_outside : (x y : ℕ) → (x < p.x) ⊎ (p.x + p.w ≤ x) ⊎ (y < p.y) ⊎ (p.y + (rows + 1) ≤ y) → (x < p.x) ⊎ (p.x + p.w ≤ x) ⊎ (y < p.y) ⊎ (p.y + rows ≤ y) → patched_texel (upto p rows) (pixels bytes) old x y ≡ patched_texel (upto p (rows + 1)) (pixels bytes) old x y
  both_outside x y g h = texel_outside (upto p rows) (pixels bytes) old x y h ∙ sym (texel_outside (upto p (rows + 1)) (pixels bytes) old x y g)

  left_of : (x y : ℕ) → x < p.x → (y < p.y + rows) ⊎ (p.y + rows < y) ⊎ ((y ≡ p.y + rows) × (x < p.x)) ⊎ ((y ≡ p.y + rows) × (p.x + p.w ≤ x))
  left_of x y l = elim (cases_lt y (p.y + rows)) [ inl h ↦ inl h | inr h ↦ elim (cases_lt (p.y + rows) y) [ inl k ↦ inr (inl k) | inr k ↦ inr (inr (inl (omega arith, l))) ] ]

  right_of : (x y : ℕ) → p.x + p.w ≤ x → (y < p.y + rows) ⊎ (p.y + rows < y) ⊎ ((y ≡ p.y + rows) × (x < p.x)) ⊎ ((y ≡ p.y + rows) × (p.x + p.w ≤ x))
  right_of x y l = elim (cases_lt y (p.y + rows)) [ inl h ↦ inl h | inr h ↦ elim (cases_lt (p.y + rows) y) [ inl k ↦ inr (inl k) | inr k ↦ inr (inr (inr (omega arith, l))) ] ]

  each : (x y : ℕ) → x < old.w → y < old.h → nth_pixel next (y * old.w + x) ≡ patched_texel (upto p (rows + 1)) (pixels bytes) old x y
  each x y a b = elim (cases_lt x p.x) [
    | inl left ↦ kept x y a b (left_of x y left) ∙ both_outside x y (inl left) (inl left)
    | inr in_left ↦ elim (cases_lt x (p.x + p.w)) [
      | inr far ↦ kept x y a b (right_of x y far) ∙ both_outside x y (inr (inl far)) (inr (inl far))
      | inl in_right ↦ elim (cases_lt y p.y) [
        | inl above ↦ kept x y a b (inl (omega arith)) ∙ both_outside x y (inr (inr (inl above))) (inr (inr (inl above)))
        | inr in_top ↦ elim (cases_lt y (p.y + rows)) [
          | inl before ↦ kept x y a b (inl before) ∙ texel_inside (upto p rows) (pixels bytes) old x y in_left in_right in_top before
              ∙ sym (texel_inside (upto p (rows + 1)) (pixels bytes) old x y in_left in_right in_top (omega arith))
          | inr from ↦ elim (cases_lt (p.y + rows) y) [
            | inl after ↦ kept x y a b (inr (inl after)) ∙ both_outside x y (inr (inr (inr (omega arith)))) (inr (inr (inr (omega arith))))
            | inr to ↦ let e : p.y + rows ≡ y = omega arith in subst (λ (n : ℕ). nth_pixel next (n * old.w + x) ≡ patched_texel (upto p (rows + 1)) (pixels bytes) old x n) e (here x in_left in_right)
          ]
        ]
      ]
    ]
  ]

  pub patched_more : (after : ImageModel) → after ≡ with_row p.x (p.y + rows) (pixels (take (4 * p.w) rest)) now → IsPatchedTo p old bytes (rows + 1) after (drop (4 * p.w) rest)
  patched_more after e =
      let wide : now.w ≡ old.w = ap (λ (q : ImageModel). q.w) d.same in
      let texels : after.texels ≡ next = ap (λ (q : ImageModel). q.texels) e ∙ ap (λ n. written now.texels ((p.y + rows) * n + p.x) (pixels (take (4 * p.w) rest))) wide in
      record {
        same = same_after old now after (written now.texels ((p.y + rows) * now.w + p.x) (pixels (take (4 * p.w) rest))) d.same e;
        whole = ap length texels ∙ length-written now.texels at (pixels (take (4 * p.w) rest)) fits ∙ d.whole;
        done = λ x y a b. ap (λ l. nth_pixel l (y * old.w + x)) texels ∙ each x y a b;
        left = ap (λ l. drop (4 * p.w) l) d.left ∙ drop-drop (4 * p.w) (rows * (4 * p.w)) bytes ∙ ap (λ n. drop n bytes) (let k = row_more rows (4 * p.w) in omega arith);
      }

-- the first rows are written and tested: where all colours are pixels, the image has them
pub record AreRowsIn (p : Patch) (old : ImageModel) (bytes : List ℕ) (rows : ℕ) (now : ImageModel) (rest : List ℕ) (over : ℕ) : Type 0 where
  pub wide : now.w ≡ old.w
  pub high : now.h ≡ old.h
  pub left : rest ≡ drop (rows * (4 * p.w)) bytes
  pub patched : HasPixels (pixels bytes) → IsPatchedTo p old bytes rows now rest
  pub exact : HasPixels (pixels bytes) → over ≡ 0
  pub sound : over ≡ 0 → (k : ℕ) → k < rows * p.w → IsPixel (nth_pixel (pixels bytes) k)

pub no_rows_in : (p : Patch) (old : ImageModel) (bytes : List ℕ) → length old.texels ≡ old.h * old.w → AreRowsIn p old bytes 0 old bytes 0
no_rows_in p old bytes l = record {
  wide = refl;
  high = refl;
  left = ap (λ n. drop n bytes) (nought (4 * p.w));
  patched = λ h. patched_none p old bytes l;
  exact = λ h i. 0;
  sound = λ e k h. absurd (omega (arith, nought p.w));
}

module _ (p : Patch) (old : ImageModel) (bytes : List ℕ) (rows : ℕ) (now : ImageModel) (rest : List ℕ) (over : ℕ) (d : AreRowsIn p old bytes rows now rest over)
    (size : length bytes ≡ p.h * (4 * p.w)) (right : p.x + p.w ≤ old.w) (below : p.y + p.h ≤ old.h) (more : rows < p.h) where
  abbrev line : List Px
  line = pixels (take (4 * p.w) rest)

  pub row_in : (after : ImageModel) (found both : ℕ) → after.w ≡ now.w → after.h ≡ now.h → (HasPixels line → after ≡ with_row p.x (p.y + rows) line now)
      → (found ≡ 0 ↔ HasPixels line) → (both ≡ 0 → (over ≡ 0) × (found ≡ 0)) → (over ≡ 0 → found ≡ 0 → both ≡ 0)
      → AreRowsIn p old bytes (rows + 1) after (drop (4 * p.w) rest) both
  row_in after found both w h e f split join = record {
    wide = w ∙ d.wide;
    high = h ∙ d.high;
    left = ap (λ l. drop (4 * p.w) l) d.left ∙ drop-drop (4 * p.w) (rows * (4 * p.w)) bytes ∙ ap (λ n. drop n bytes) (let k = row_more rows (4 * p.w) in omega arith);
    patched = λ q. patched_more p old bytes rows now rest (d.patched q) size right below more after (e (line_sound p bytes rows rest d.left size more q));
    exact = λ q. join (d.exact q) (f.1 (line_sound p bytes rows rest d.left size more q));
    sound = λ z. sound_more p bytes rows rest d.left size more (d.sound (split z).0) (f.0 (split z).1);
  }

pub max_split : (a b : ℕ) → max a b ≡ 0 → (a ≡ 0) × (b ≡ 0)
max_split a b e = (omega arith, omega arith)

pub max_join : (a b : ℕ) → a ≡ 0 → b ≡ 0 → max a b ≡ 0
max_join a b e f = omega arith
