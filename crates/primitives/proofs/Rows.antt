-- Bytes of rows of colours.
use Rattle.std.proofs.Common.{◌≡◌, ℕ, ◌+◌, ◌-◌, ◌%◌, ◌<◌, ◌≤◌, ◌^◌, ℤ, pos, ◌+ℤ◌, ◌-ℤ◌, ◌≤ℤ◌, ◌<ℤ◌, ◌⊎◌, inl, inr, Option, Some, None, List, length, get_or, set, take, min, rules, unsigned_abs, Bool, true, false, not, if◌then◌else◌, T, subst, refl, sym, ap, ap₂, ◌∙◌, arith}
use Rattle.std.specs.Int.Signed.{lt_z, lt_z_yes, lt_z_no, le_z}
use Rattle.std.proofs.lemmas.Int.{ints, clamps}
use Rattle.std.proofs.lemmas.Bool.{cases_lt}
use borrow.Rule.Slice.PartMut.{put_mid}
use Rattle.std.proofs.lemmas.List.{places, get_or-set_same, get_or-set_other}
use Rattle.wr_geom.specs.Bounds.{Bounds}
use Rattle.wr_geom.proofs.Points.{holds_it, misses_it}
use Rattle.blend_rules.specs.declared.colour.Px.{Px}
use Rattle.blend_rules.specs.declared.plane.Plane.{Plane}
use Rattle.blend_rules.specs.declared.plane.Plane.TheVariants.{B, G, R, A}
use Rattle.blend_rules.specs.Colour.{IsPixel, IsPremultiplied, clear, product}
use Rattle.blend_rules.specs.Planes.{channel}
use Rattle.blend_rules.proofs.Products.{product-zero_right}
use Rattle.span_kernels.specs.Bytes.{over_byte}
use Rattle.std.proofs.Math.Nat.{mod-add-mod}
use Rattle.std.proofs.lemmas.Nat.{mod_below}
use Rattle.image_store.specs.Models.{ImageModel, MaskModel, texel_of, mask_byte}
use Rattle.primitives.specs.Borders.{pixels_before}
use Rattle.clip_masks.specs.Corners.{HasPixel}
use Rattle.std.specs.List.{fold}
use Rattle.std.proofs.lemmas.List.Sums.{fold_more}
use Rattle.blend_rules.proofs.Blends.{clear_is_pixel}
use Rattle.span_kernels.proofs.ColourLaws.{masked_by_plane}
use Rattle.image_store.specs.StoreModel.{StoreModel, IsStore, glyph_at}
use Rattle.primitives.specs.declared.kind.GlyphUse.{GlyphUse}
use Rattle.primitives.specs.Rows.{masked_byte}
use Rattle.primitives.specs.PrimitiveModel.{PrimitiveModel}
use Rattle.primitives.specs.Colours.{resource_of_use, mask_rect, mask_coverage, glyph_use_over, kind_colour, primitive_colour}
use Rattle.primitives.proofs.Colours.{colour_outside, colour_inside, text_pixel, use_is_byte}

-- ---- planes

pub channel_clear : (p : Plane) → channel p clear ≡ 0
channel_clear B = refl
channel_clear G = refl
channel_clear R = refl
channel_clear A = refl

pub channel_most : (p : Plane) (c : Px) → IsPremultiplied c → channel p c ≤ c.a
channel_most B c is = is.blue
channel_most G c is = is.green
channel_most R c is = is.red
channel_most A c is = omega arith

pub channel_byte : (p : Plane) (c : Px) → IsPixel c → channel p c < 2 ^ 8
channel_byte p c is = let m = channel_most p c is.premultiplied in let b = is.byte in omega arith

-- ---- text

-- nothing of a colour leaves a byte
pub over_nothing : (a c d : ℕ) → a < 2 ^ 8 → c < 2 ^ 8 → d < 2 ^ 8 → over_byte (product a 0) (product c 0) d ≡ d
over_nothing a c d ha hc hd =
    ap₂ (λ (x y : ℕ). over_byte x y d) (product-zero_right a ha) (product-zero_right c hc)
    ∙ (let z = product-zero_right d hd in omega arith)

pub coverage_inside : (m : MaskModel) (x y : ℤ) (i j : ℕ) → x ≡ pos i → y ≡ pos j → i < m.w → j < m.h → mask_coverage (Some m) x y ≡ mask_byte m i j
unfolding mask_coverage
coverage_inside m x y i j ex ey hx hy =
    rw (ex, ey) (ap (λ (t : Bool). if t then mask_byte m i j else 0) (holds_it (mask_rect m) (pos i) (pos j) (record { left = omega (arith, ints); right = omega (arith, ints); top = omega (arith, ints); bottom = omega (arith, ints) })))

pub coverage_beside : (m : MaskModel) (x y : ℤ) → ((pos 0 ≤ℤ x) → (x <ℤ pos m.w) → (pos 0 ≤ℤ y) → (y <ℤ pos m.h) → ⊥) → mask_coverage (Some m) x y ≡ 0
unfolding mask_coverage
coverage_beside m x y none =
    ap (λ (t : Bool). if t then mask_byte m (unsigned_abs x) (unsigned_abs y) else 0) (misses_it (mask_rect m) x y (λ h. none h.left h.right h.top h.bottom))

-- a mask's row, whose first byte belongs to the index start, laid over a row of bytes
pub record IsLaid (s sa : ℕ) (start : ℤ) (row old new : List ℕ) (len : ℕ) : Type 0 where
  pub inside : (k j : ℕ) → k < len → j < length row → pos k ≡ start +ℤ pos j → get_or new k 0 ≡ over_byte (product sa (get_or row j 0)) (product s (get_or row j 0)) (get_or old k 0)
  pub beside : (k : ℕ) → k < len → (pos k <ℤ start) ⊎ ((start +ℤ pos (length row)) ≤ℤ pos k) → get_or new k 0 ≡ get_or old k 0

-- that is the mask's coverage at each pixel
pub laid_row : (m : MaskModel) (s sa : ℕ) (x0 ax z : ℤ) (r : ℕ) (row old new : List ℕ) (len k : ℕ) → s < 2 ^ 8 → sa < 2 ^ 8 → ((i : ℕ) → get_or old i 0 < 2 ^ 8)
    → z ≡ pos r → r < m.h → length row ≡ m.w → ((x : ℕ) → x < m.w → get_or row x 0 ≡ mask_byte m x r) → IsLaid s sa (ax -ℤ x0) row old new len → k < len
    → get_or new k 0 ≡ over_byte (product sa (mask_coverage (Some m) (x0 +ℤ pos k -ℤ ax) z)) (product s (mask_coverage (Some m) (x0 +ℤ pos k -ℤ ax) z)) (get_or old k 0)
laid_row m s sa x0 ax z r row old new len k hs ha bytes at high wide is laid lt = by_tests (lt_z (x0 +ℤ pos k -ℤ ax) (pos 0)) (lt_z (x0 +ℤ pos k -ℤ ax) (pos m.w)) refl refl
  where
    cover : ℕ
    cover = mask_coverage (Some m) (x0 +ℤ pos k -ℤ ax) z

    none : cover ≡ 0 → get_or new k 0 ≡ get_or old k 0 → get_or new k 0 ≡ over_byte (product sa cover) (product s cover) (get_or old k 0)
    none e same = same ∙ sym (ap (λ (n : ℕ). over_byte (product sa n) (product s n) (get_or old k 0)) e ∙ over_nothing sa s (get_or old k 0) ha hs (bytes k))

    by_tests : (t u : Bool) → lt_z (x0 +ℤ pos k -ℤ ax) (pos 0) ≡ t → lt_z (x0 +ℤ pos k -ℤ ax) (pos m.w) ≡ u → get_or new k 0 ≡ over_byte (product sa cover) (product s cover) (get_or old k 0)
    by_tests true u e f =
        let low : (x0 +ℤ pos k -ℤ ax) <ℤ pos 0 = lt_z_yes (subst T (sym e) tt) in
        none (coverage_beside m (x0 +ℤ pos k -ℤ ax) z (λ a b c d. omega (arith, ints))) (laid.beside k lt (inl (omega (arith, ints))))
    by_tests false false e f =
        let past : pos m.w ≤ℤ (x0 +ℤ pos k -ℤ ax) = lt_z_no (subst (λ t. T (not t)) (sym f) tt) in
        none (coverage_beside m (x0 +ℤ pos k -ℤ ax) z (λ a b c d. omega (arith, ints))) (laid.beside k lt (inr (omega (arith, ints, wide))))
    by_tests false true e f =
        let low : pos 0 ≤ℤ (x0 +ℤ pos k -ℤ ax) = lt_z_no (subst (λ t. T (not t)) (sym e) tt) in
        let high_x : (x0 +ℤ pos k -ℤ ax) <ℤ pos m.w = lt_z_yes (subst T (sym f) tt) in
        let j : ℕ = unsigned_abs (x0 +ℤ pos k -ℤ ax) in
        let is_j : (x0 +ℤ pos k -ℤ ax) ≡ pos j = omega (arith, ints, clamps) in
        let within : j < m.w = omega (arith, ints) in
        let byte : get_or row j 0 ≡ cover = is j within ∙ sym (coverage_inside m (x0 +ℤ pos k -ℤ ax) z j r is_j at within high) in
        rw (← byte) (laid.inside k j lt (omega (arith, wide)) (omega (arith, ints)))

-- nothing is laid where the row lies beside the mask, or where there is none
pub row_beside : (o : Option MaskModel) (s sa : ℕ) (x z : ℤ) (d : ℕ) → s < 2 ^ 8 → sa < 2 ^ 8 → d < 2 ^ 8 → mask_coverage o x z ≡ 0
    → d ≡ over_byte (product sa (mask_coverage o x z)) (product s (mask_coverage o x z)) d
row_beside o s sa x z d hs ha hd e = sym (ap (λ (n : ℕ). over_byte (product sa n) (product s n) d) e ∙ over_nothing sa s d ha hs hd)

-- ---- primitives

pub byte_outside : (store : StoreModel) (prim : PrimitiveModel) (p : Plane) (x y : ℤ) → (HasPixel prim.rect x y → ⊥) → channel p (primitive_colour store prim x y) ≡ 0
byte_outside store prim p x y out =
    ap (channel p) (colour_outside store prim x y (misses_it prim.rect x y (λ h. out (record { left = h.left; right = h.right; top = h.top; bottom = h.bottom })))) ∙ channel_clear p

pub byte_inside : (store : StoreModel) (prim : PrimitiveModel) (p : Plane) (x y : ℤ) → HasPixel prim.rect x y → channel p (primitive_colour store prim x y) ≡ channel p (kind_colour store prim.rect prim.kind x y)
byte_inside store prim p x y is =
    ap (channel p) (colour_inside store prim x y (holds_it prim.rect x y (record { left = is.left; right = is.right; top = is.top; bottom = is.bottom })))

-- no pixel of the row lies in the rectangle's rows
pub byte_above : (store : StoreModel) (prim : PrimitiveModel) (p : Plane) (x y : ℤ) → (y <ℤ prim.rect.y0) ⊎ (prim.rect.y1 ≤ℤ y) → channel p (primitive_colour store prim x y) ≡ 0
byte_above store prim p x y (inl low) = byte_outside store prim p x y (λ h. let t = h.top in omega (arith, ints))
byte_above store prim p x y (inr high) = byte_outside store prim p x y (λ h. let t = h.bottom in omega (arith, ints))

-- the first index of a row of len pixels at or beyond a distance from its first one, or len
pub record IsIndexOf (distance : ℤ) (len n : ℕ) : Type 0 where
  pub within : n ≤ len
  pub before : (k : ℕ) → k < n → pos k <ℤ distance
  pub after : (k : ℕ) → n ≤ k → k < len → distance ≤ℤ pos k
  pub none : distance ≤ℤ pos 0 → n ≡ 0
  pub exact : pos 0 ≤ℤ distance → n < len → pos n ≡ distance

-- a greater distance has a greater index
pub index_order : (d e : ℤ) (len n m : ℕ) → d ≤ℤ e → IsIndexOf d len n → IsIndexOf e len m → n ≤ m
index_order d e len n m h p q = elim (cases_lt m n) [
  | inl less ↦ let before = p.before m less in let after = q.after m (omega arith) (omega (arith, p.within)) in absurd (omega (arith, ints))
  | inr more ↦ more
]

pub index_at : {d e : ℤ} {len n : ℕ} → d ≡ e → IsIndexOf d len n → IsIndexOf e len n
index_at {len = len} {n = n} h is = subst (λ (z : ℤ). IsIndexOf z len n) h is

-- a whole row of a primitive, whose part inside the rectangle is its kind's
pub row_is : (store : StoreModel) (prim : PrimitiveModel) (p : Plane) (x0 y : ℤ) (len n m : ℕ) (clear_row out : List ℕ)
    → ((k : ℕ) → k < n → (x0 +ℤ pos k) <ℤ prim.rect.x0) → ((k : ℕ) → n ≤ k → k < m → HasPixel prim.rect (x0 +ℤ pos k) y) → ((k : ℕ) → m ≤ k → k < len → prim.rect.x1 ≤ℤ (x0 +ℤ pos k))
    → ((k : ℕ) → k < n → get_or clear_row k 0 ≡ 0) → ((k : ℕ) → m ≤ k → k < len → get_or clear_row k 0 ≡ 0)
    → ((k : ℕ) → n ≤ k → k < m → get_or out k 0 ≡ channel p (kind_colour store prim.rect prim.kind (x0 +ℤ pos k) y)) → ((k : ℕ) → k < n → get_or out k 0 ≡ get_or clear_row k 0) → ((k : ℕ) → m ≤ k → get_or out k 0 ≡ get_or clear_row k 0)
    → (k : ℕ) → k < len → get_or out k 0 ≡ channel p (primitive_colour store prim (x0 +ℤ pos k) y)
row_is store prim p x0 y len n m clear_row out first pixels last left right inside before after k lt = elim (cases_lt k n) [
  | inl l ↦ before k l ∙ left k l ∙ sym (byte_outside store prim p (x0 +ℤ pos k) y (λ h. let f = first k l in let g = h.left in omega (arith, ints)))
  | inr l ↦ elim (cases_lt k m) [
    | inl r ↦ inside k l r ∙ sym (byte_inside store prim p (x0 +ℤ pos k) y (pixels k l r))
    | inr r ↦ after k r ∙ right k r lt ∙ sym (byte_outside store prim p (x0 +ℤ pos k) y (λ h. let f = last k r lt in let g = h.right in omega (arith, ints)))
  ]
]

-- one byte more of a row
pub one_byte_more : (f : ℕ → ℕ) (i v : ℕ) (now : List ℕ) → i < length now → v ≡ f i → ((k : ℕ) → k < i → get_or now k 0 ≡ f k) → (k : ℕ) → k < i + 1 → get_or (set now i v) k 0 ≡ f k
one_byte_more f i v now within e before k lt = elim (cases_lt k i) [
  | inl l ↦ get_or-set_other now i k v 0 (λ same. omega arith) ∙ before k l
  | inr m ↦
      let same : k ≡ i = omega arith in
      rw same (get_or-set_same now i v 0 within ∙ e)
]

-- ---- a part of a row

-- a byte of a part that was written
pub part_inside : (a n : ℕ) (xs ys : List ℕ) (k : ℕ) → a ≤ length xs → length ys ≡ n → a ≤ k → k < a + n → get_or (put_mid a n xs ys) k 0 ≡ get_or ys (k - a) 0
part_inside a n xs ys k room long low high = search (rules, places)

pub part_after : (a n : ℕ) (xs ys : List ℕ) (k : ℕ) → a + n ≤ length xs → length ys ≡ n → a + n ≤ k → get_or (put_mid a n xs ys) k 0 ≡ get_or xs k 0
part_after a n xs ys k room long high = search (rules, places)

-- where a mask's row meets a row of bytes
module _ (s sa : ℕ) (start back : ℤ) (row old new : List ℕ) (len from first count : ℕ) (at : IsIndexOf start len from) (over : IsIndexOf back (length row) first) (turned : start +ℤ back ≡ pos 0) (most : count ≡ min (len - from) (length row - first))
    (inside : (i : ℕ) → i < count → get_or new (from + i) 0 ≡ over_byte (product sa (get_or row (first + i) 0)) (product s (get_or row (first + i) 0)) (get_or old (from + i) 0))
    (before : (k : ℕ) → k < from → get_or new k 0 ≡ get_or old k 0) (after : (k : ℕ) → from + count ≤ k → get_or new k 0 ≡ get_or old k 0) where
  met : (k j i : ℕ) → i < count → k ≡ from + i → j ≡ first + i → get_or new k 0 ≡ over_byte (product sa (get_or row j 0)) (product s (get_or row j 0)) (get_or old k 0)
  met k j i lt e f = rw (e, f) (inside i lt)

  met_at : (t : Bool) → lt_z start (pos 0) ≡ t → (k j : ℕ) → k < len → j < length row → pos k ≡ start +ℤ pos j → from ≤ k → first ≤ j → get_or new k 0 ≡ over_byte (product sa (get_or row j 0)) (product s (get_or row j 0)) (get_or old k 0)
  met_at true e k j lt l is m n =
      let low : start <ℤ pos 0 = lt_z_yes (subst T (sym e) tt) in
      let none : from ≡ 0 = at.none (omega (arith, ints)) in
      let exact : pos first ≡ back = over.exact (omega (arith, ints)) (omega arith) in
      let i : ℕ = j - first in
      let same : k ≡ i = omega (arith, ints) in
      met k j i (omega arith) (omega arith) (omega arith)
  met_at false e k j lt l is m n =
      let low : pos 0 ≤ℤ start = lt_z_no (subst (λ t. T (not t)) (sym e) tt) in
      let none : first ≡ 0 = over.none (omega (arith, ints)) in
      let exact : pos from ≡ start = at.exact low (omega arith) in
      let i : ℕ = k - from in
      let same : j ≡ i = omega (arith, ints) in
      met k j i (omega arith) (omega arith) (omega arith)

  past : (t : Bool) → lt_z start (pos 0) ≡ t → (k : ℕ) → k < len → (start +ℤ pos (length row)) ≤ℤ pos k → from ≤ k → from + count ≤ k
  past true e k lt l m =
      let low : start <ℤ pos 0 = lt_z_yes (subst T (sym e) tt) in
      let none : from ≡ 0 = at.none (omega (arith, ints)) in
      elim (cases_lt first (length row)) [
        | inl less ↦ let exact : pos first ≡ back = over.exact (omega (arith, ints)) less in omega (arith, ints)
        | inr more ↦ omega arith
      ]
  past false e k lt l m =
      let low : pos 0 ≤ℤ start = lt_z_no (subst (λ t. T (not t)) (sym e) tt) in
      let none : first ≡ 0 = over.none (omega (arith, ints)) in
      let exact : pos from ≡ start = at.exact low (omega arith) in
      omega (arith, ints)

  pub laid_from : IsLaid s sa start row old new len
  laid_from = record {
    inside = λ k j lt l is.
        let m : from ≤ k = elim (cases_lt k from) [ inl less ↦ let b = at.before k less in absurd (omega (arith, ints)) | inr more ↦ more ] in
        let n : first ≤ j = elim (cases_lt j first) [ inl less ↦ let b = over.before j less in absurd (omega (arith, ints)) | inr more ↦ more ] in
        met_at (lt_z start (pos 0)) refl k j lt l is m n;
    beside = λ k lt o. elim (cases_lt k from) [
      | inl less ↦ before k less
      | inr more ↦ elim o [
        | inl l ↦ let b = at.after k more lt in absurd (omega (arith, ints))
        | inr l ↦ after k (past (lt_z start (pos 0)) refl k lt l more)
      ]
    ];
  }

-- ---- points that are written in two ways

pub pixel_same : (b : Bounds) {x y v w : ℤ} → v ≡ x → w ≡ y → HasPixel b x y → HasPixel b v w
pixel_same b {x} {y} {v} {w} e f h = rw (e, f) h

-- ---- images

-- a byte of an image's row that is repeated
pub repeated_byte : (image : ImageModel) (p : Plane) (b : Bounds) (u v : ℕ) (x0 y : ℤ) (i column row : ℕ) (bytes : List ℕ) → b.x0 ≤ℤ x0 → 1 ≤ image.w → length bytes ≡ image.w
    → column ≡ (pixels_before b.x0 x0 + u) % image.w → row ≡ (pixels_before b.y0 y + v) % image.h
    → ((x : ℕ) → x < image.w → get_or bytes x 0 ≡ channel p (texel_of image x row))
    → get_or bytes ((column + i) % length bytes) 0 ≡ channel p (texel_of image ((pixels_before b.x0 (x0 +ℤ pos i) + u) % image.w) ((pixels_before b.y0 y + v) % image.h))
repeated_byte image p b u v x0 y i column row bytes left some long at below is =
    let w : ℕ = image.w in
    let j : ℕ = (column + i) % w in
    let within : j < w = mod_below (column + i) w (omega arith) in
    let moved : pixels_before b.x0 x0 + u + i ≡ pixels_before b.x0 (x0 +ℤ pos i) + u = omega (arith, ints, clamps) in
    let turned : j ≡ (pixels_before b.x0 (x0 +ℤ pos i) + u) % w = ap (λ (n : ℕ). (n + i) % w) at ∙ mod-add-mod (pixels_before b.x0 x0 + u) w i ∙ ap (λ (n : ℕ). n % w) moved in
    ap (λ (n : ℕ). get_or bytes ((column + i) % n) 0) long ∙ is j within ∙ ap₂ (λ (c r : ℕ). channel p (texel_of image c r)) turned below

-- ---- glyphs

-- one glyph more over a row
pub glyph_more : (store : StoreModel) → IsStore store → (pipeline font : ℕ) (colour : Px) → IsPixel colour → (glyphs : List GlyphUse) (i : ℕ) (g : GlyphUse) → i < length glyphs → ((d : GlyphUse) → g ≡ get_or glyphs i d) → (p : Plane) (x y : ℤ) (d new : ℕ)
    → new ≡ masked_byte p colour (resource_of_use g.generation (glyph_at store pipeline font g.glyph)) (x -ℤ g.x) (y -ℤ g.y) d
    → d ≡ channel p (fold (glyph_use_over store pipeline font colour x y) clear (take i glyphs))
    → new ≡ channel p (fold (glyph_use_over store pipeline font colour x y) clear (take (i + 1) glyphs))
glyph_more store h pipeline font colour is glyphs i g within here p x y d new laid before =
    let f = glyph_use_over store pipeline font colour x y in
    let mask = resource_of_use g.generation (glyph_at store pipeline font g.glyph) in
    let so_far = fold f clear (take i glyphs) in
    let pixel = text_pixel store h pipeline font colour x y is (take i glyphs) clear clear_is_pixel in
    laid
    ∙ ap (masked_byte p colour mask (x -ℤ g.x) (y -ℤ g.y)) before
    ∙ sym (masked_by_plane p colour so_far (mask_coverage mask (x -ℤ g.x) (y -ℤ g.y)) (use_is_byte store h pipeline font g (x -ℤ g.x) (y -ℤ g.y)) is pixel)
    ∙ ap (λ (e : GlyphUse). channel p (f so_far e)) (here g)
    ∙ ap (channel p) (sym (fold_more f clear glyphs i g within))

pub coverage_none : (x y : ℤ) → mask_coverage None x y ≡ 0
unfolding mask_coverage
coverage_none x y = refl

-- ---- tests of the code

pub le_no : (a b : ℤ) → le_z a b ≡ false → b <ℤ a
le_no a b e = grind (arith, ints)
