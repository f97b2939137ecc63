-- The colours of primitives are pixels, clear where they aren't visible, and whole where they are opaque.
use Rattle.std.proofs.Common.{◌≡◌, ℕ, ◌+◌, ◌*◌, ◌%◌, ◌<◌, ◌≤◌, ◌^◌, ℤ, ◌-ℤ◌, List, [], ◌∷◌, length, Option, Some, None, Bool, true, false, if◌then◌else◌, unsigned_abs, refl, ap, ◌∙◌, arith}
use Rattle.std.specs.List.{fold}
use Rattle.std.proofs.Math.Nat.{mul-le-mul_right}
use Rattle.std.proofs.lemmas.Nat.{mod_below}
use Rattle.std.proofs.lemmas.List.Sums.{count_by-le-length}
use Rattle.wr_geom.specs.Bounds.{Bounds, holds}
use Rattle.wr_geom.specs.declared.point.Point.{Point}
use Rattle.wr_geom.specs.declared.sides.Radii.{Radii}
use Rattle.wr_geom.specs.declared.sides.Widths.{Widths}
use Rattle.blend_rules.specs.Colour.{IsPixel, clear, scaled, blended}
use Rattle.blend_rules.specs.declared.colour.Px.{Px}
use Rattle.blend_rules.specs.declared.mode.Mode.TheVariants.{Normal}
use Rattle.blend_rules.proofs.Blends.{scaled_by_full, scaled_by_none, scaled_clear, scaled_is_pixel, clear_is_pixel, blend_is_pixel, opaque_covers}
use Rattle.clip_masks.specs.Coverage.{chain_coverage}
use Rattle.clip_masks.specs.Outline.{Outline, samples_inside, sample_points, is_inside}
use Rattle.clip_masks.proofs.Chains.{chain_byte, beside_cut}
use Rattle.image_store.specs.Models.{ImageModel, MaskModel, IsImage, IsMask, mask_byte}
use Rattle.image_store.specs.StoreModel.{StoreModel, IsStore, image_at, glyph_at}
use Rattle.primitives.specs.declared.border.Edge.{Edge}
use Rattle.primitives.specs.declared.border.BorderColours.{BorderColours}
use Rattle.primitives.specs.declared.kind.GlyphUse.{GlyphUse}
use Rattle.primitives.specs.declared.kind.Kind.{Kind}
use Rattle.primitives.specs.declared.kind.Kind.TheVariants as kind
use Rattle.primitives.specs.PrimitiveModel.{PrimitiveModel, IsKind}
use Rattle.primitives.specs.Borders.{HasPixelColours, border_colour, border_coverage, colour_of_side, side_colour, is_horizontal, vertical_edge, horizontal_edge, pixels_before}
use Rattle.primitives.specs.Colours.{resource_of_use, repeated_texel, mask_rect, image_colour, mask_coverage, mask_over, glyph_use_over, kind_colour, primitive_colour, covered_colour}
use Rattle.primitives.specs.Stacks.{Stack}
use Rattle.primitives.specs.Facts.{IsOpaque, IsOpaqueImage}
use Rattle.primitives.specs.Laws.{ColourIsPixel, CoveredIsPixel, ClearWhereNotVisible, OpaqueIsFull, OpaqueReplaces}

-- ---- images

index_within : (x y w h : ℕ) → x < w → y < h → y * w + x < h * w
index_within x y w h k l =
    let m : (y + 1) * w ≤ h * w = mul-le-mul_right w (let n : y + 1 ≤ h = omega arith in n) in
    let e : (y + 1) * w ≡ y * w + w = omega arith in
    omega (arith, m, e)

repeated_within : (image : ImageModel) (column row : ℕ) → IsImage image → row % image.h * image.w + column % image.w < length image.texels
repeated_within image column row is =
    let a = is.wide.some in
    let b = is.high.some in
    let k = mod_below column image.w (omega arith) in
    let l = mod_below row image.h (omega arith) in
    omega (arith, index_within (column % image.w) (row % image.h) image.w image.h k l, is.whole)

texel_pixel : (o : Option ImageModel) → ((image : ImageModel) → o ≡ Some image → IsImage image) → (column row : ℕ) → IsPixel (repeated_texel o column row)
texel_pixel None h column row = clear_is_pixel
texel_pixel (Some image) h column row = let is = h image refl in is.pixels (row % image.h * image.w + column % image.w) (repeated_within image column row is)

-- what is drawn of what is stored was stored
used_stored : {A : Type 0} (g : Option ℕ) (o : Option A) (a : A) → resource_of_use g o ≡ Some a → o ≡ Some a
used_stored None o a e = absurd cc
used_stored (Some g) o a e = e

image_use_pixel : (store : StoreModel) → IsStore store → (pipeline key : ℕ) (g : Option ℕ) (column row : ℕ) → IsPixel (repeated_texel (resource_of_use g (image_at store pipeline key)) column row)
image_use_pixel store h pipeline key g column row =
    texel_pixel (resource_of_use g (image_at store pipeline key)) (λ image e. h.images pipeline key image (used_stored g (image_at store pipeline key) image e)) column row

pub image_pixel : (store : StoreModel) → IsStore store → (pipeline key : ℕ) (b : Bounds) (u v : ℕ) (x y : ℤ) → IsPixel (image_colour (image_at store pipeline key) b u v x y)
image_pixel store h pipeline key b u v x y = texel_pixel (image_at store pipeline key) (h.images pipeline key) (pixels_before b.x0 x + u) (pixels_before b.y0 y + v)

-- ---- borders

side_pixel : (across down : Edge) (c : BorderColours) → HasPixelColours c → IsPixel (colour_of_side across down c)
unfolding colour_of_side
side_pixel across down c is = by_tests (is_horizontal across down) down.is_first across.is_first
  where
    by_tests : (h d a : Bool) → IsPixel (if h then (if d then c.top else c.bottom) else (if a then c.left else c.right))
    by_tests true true a = is.top
    by_tests true false a = is.bottom
    by_tests false d true = is.left
    by_tests false d false = is.right

samples_most : (s : Outline) (x y : ℤ) → samples_inside s x y ≤ 16
unfolding samples_inside
samples_most s x y = count_by-le-length (λ (p : ℤ × ℤ). is_inside s p.0 p.1) (sample_points x y)

border_byte : (outer : Outline) (w : _) (x y : ℤ) → border_coverage outer w x y < 2 ^ 8
unfolding border_coverage
border_byte outer w x y = let m = samples_most outer x y in omega arith

pub border_pixel : (b : Bounds) (w : Widths) (c : BorderColours) (radii : Radii) (x y : ℤ) → HasPixelColours c → IsPixel (border_colour b w c radii x y)
unfolding side_colour
border_pixel b w c radii x y is =
    let o : Outline = record { rect = b; radii = radii } in
    scaled_is_pixel (side_colour b w c x y) (border_coverage o w x y) (border_byte o w x y) (side_pixel (vertical_edge b w x) (horizontal_edge b w y) c is)

-- ---- text

mask_is_byte : (o : Option MaskModel) → ((mask : MaskModel) → o ≡ Some mask → IsMask mask) → (x y : ℤ) → mask_coverage o x y < 2 ^ 8
unfolding mask_coverage
mask_is_byte None h x y = omega arith
mask_is_byte (Some mask) h x y = by_test (holds (mask_rect mask) x y)
  where
    by_test : (t : Bool) → (if t then mask_byte mask (unsigned_abs x) (unsigned_abs y) else 0) < 2 ^ 8
    by_test true = (h mask refl).bytes (unsigned_abs y * mask.w + unsigned_abs x)
    by_test false = omega arith

pub use_is_byte : (store : StoreModel) → IsStore store → (pipeline font : ℕ) (g : GlyphUse) (x y : ℤ) → mask_coverage (resource_of_use g.generation (glyph_at store pipeline font g.glyph)) x y < 2 ^ 8
use_is_byte store h pipeline font g x y =
    let stored = glyph_at store pipeline font g.glyph in
    mask_is_byte (resource_of_use g.generation stored) (λ mask e. h.masks pipeline font g.glyph mask (used_stored g.generation stored mask e)) x y

mask_over_pixel : (o : Option MaskModel) → ((mask : MaskModel) → o ≡ Some mask → IsMask mask) → (at : Point) (colour so_far : Px) (x y : ℤ) → IsPixel colour → IsPixel so_far → IsPixel (mask_over o at colour so_far x y)
mask_over_pixel o h at colour so_far x y c s =
    let n = mask_coverage o (x -ℤ at.x) (y -ℤ at.y) in
    blend_is_pixel Normal (scaled colour n) so_far (scaled_is_pixel colour n (mask_is_byte o h (x -ℤ at.x) (y -ℤ at.y)) c).byte s.byte

pub glyph_pixel : (store : StoreModel) → IsStore store → (pipeline font glyph : ℕ) (at : Point) (colour so_far : Px) (x y : ℤ) → IsPixel colour → IsPixel so_far → IsPixel (mask_over (glyph_at store pipeline font glyph) at colour so_far x y)
glyph_pixel store h pipeline font glyph at colour so_far x y c s = mask_over_pixel (glyph_at store pipeline font glyph) (h.masks pipeline font glyph) at colour so_far x y c s

glyph_use_pixel : (store : StoreModel) → IsStore store → (pipeline font : ℕ) (colour : Px) (x y : ℤ) (g : GlyphUse) (so_far : Px) → IsPixel colour → IsPixel so_far → IsPixel (glyph_use_over store pipeline font colour x y so_far g)
glyph_use_pixel store h pipeline font colour x y g so_far c s =
    let stored = glyph_at store pipeline font g.glyph in
    mask_over_pixel (resource_of_use g.generation stored) (λ mask e. h.masks pipeline font g.glyph mask (used_stored g.generation stored mask e)) (record { x = g.x; y = g.y }) colour so_far x y c s

pub text_pixel : (store : StoreModel) → IsStore store → (pipeline font : ℕ) (colour : Px) (x y : ℤ) → IsPixel colour → (glyphs : List GlyphUse) (so_far : Px) → IsPixel so_far
    → IsPixel (fold (glyph_use_over store pipeline font colour x y) so_far glyphs)
text_pixel store h pipeline font colour x y c [] so_far s = s
text_pixel store h pipeline font colour x y c (g ∷ gs) so_far s =
    text_pixel store h pipeline font colour x y c gs (glyph_use_over store pipeline font colour x y so_far g) (glyph_use_pixel store h pipeline font colour x y g so_far c s)

-- ---- primitives

kind_pixel : (store : StoreModel) → IsStore store → (b : Bounds) (k : Kind) (x y : ℤ) → IsKind b k → IsPixel (kind_colour store b k x y)
kind_pixel store h b (kind.Solid colour) x y is = is
kind_pixel store h b (kind.Image pipeline key g u v) x y is = image_use_pixel store h pipeline key g (pixels_before b.x0 x + u) (pixels_before b.y0 y + v)
kind_pixel store h b (kind.Border w top right bottom l radii) x y is =
    border_pixel b w (record { top = top; right = right; bottom = bottom; left = l }) radii x y (record { top = is.1; right = is.2; bottom = is.3; left = is.4 })
kind_pixel store h b (kind.Text pipeline font colour glyphs) x y is = text_pixel store h pipeline font colour x y is.0 glyphs clear clear_is_pixel

pub colour_is_pixel : ColourIsPixel
unfolding primitive_colour
colour_is_pixel store p x y h is = by_test (holds p.rect x y)
  where
    by_test : (t : Bool) → IsPixel (if t then kind_colour store p.rect p.kind x y else clear)
    by_test true = kind_pixel store h p.rect p.kind x y is
    by_test false = clear_is_pixel

pub covered_is_pixel : CoveredIsPixel
unfolding covered_colour
covered_is_pixel store p x y h is =
    scaled_is_pixel (primitive_colour store p x y) (chain_coverage p.clips 255 x y) (chain_byte p.clips 255 x y (omega arith)) (colour_is_pixel store p x y h is)

-- ---- where a primitive isn't visible

pub colour_outside : (store : StoreModel) (p : PrimitiveModel) (x y : ℤ) → holds p.rect x y ≡ false → primitive_colour store p x y ≡ clear
unfolding primitive_colour
colour_outside store p x y e = ap (λ (t : Bool). if t then kind_colour store p.rect p.kind x y else clear) e

pub colour_inside : (store : StoreModel) (p : PrimitiveModel) (x y : ℤ) → holds p.rect x y ≡ true → primitive_colour store p x y ≡ kind_colour store p.rect p.kind x y
unfolding primitive_colour
colour_inside store p x y e = ap (λ (t : Bool). if t then kind_colour store p.rect p.kind x y else clear) e

pub clear_where_not_visible : ClearWhereNotVisible
unfolding covered_colour
clear_where_not_visible store p x y h is n = by_test (holds p.rect x y) refl
  where
    by_test : (t : Bool) → holds p.rect x y ≡ t → scaled (primitive_colour store p x y) (chain_coverage p.clips 255 x y) ≡ clear
    by_test false e = ap (λ (c : Px). scaled c (chain_coverage p.clips 255 x y)) (colour_outside store p x y e) ∙ scaled_clear (chain_coverage p.clips 255 x y)
    by_test true e =
        ap (scaled (primitive_colour store p x y)) (beside_cut p.rect p.clips 255 x y (omega arith) e n)
        ∙ scaled_by_none (primitive_colour store p x y) (colour_is_pixel store p x y h is)

-- ---- opaque primitives

full_texel : (o : Option ImageModel) → ((image : ImageModel) → o ≡ Some image → IsImage image) → IsOpaqueImage o → (column row : ℕ) → (repeated_texel o column row).a ≡ 255
full_texel None h opaque column row = absurd opaque
full_texel (Some image) h opaque column row = opaque (row % image.h * image.w + column % image.w) (repeated_within image column row (h image refl))

full_kind : (store : StoreModel) → IsStore store → (b : Bounds) (k : Kind) (x y : ℤ) → IsOpaque store k → (kind_colour store b k x y).a ≡ 255
full_kind store h b (kind.Solid colour) x y is = is
full_kind store h b (kind.Image pipeline key g u v) x y is =
    full_texel (resource_of_use g (image_at store pipeline key)) (λ image e. h.images pipeline key image (used_stored g (image_at store pipeline key) image e)) is (pixels_before b.x0 x + u) (pixels_before b.y0 y + v)
full_kind store h b (kind.Border w top right bottom l radii) x y is = absurd is
full_kind store h b (kind.Text pipeline font colour glyphs) x y is = absurd is

pub opaque_is_full : OpaqueIsFull
opaque_is_full store p x y h is e = ap (λ (c : Px). c.a) (colour_inside store p x y e) ∙ full_kind store h p.rect p.kind x y is

pub opaque_replaces : OpaqueReplaces
unfolding covered_colour
opaque_replaces store p x y s h is opaque e full =
    let c = primitive_colour store p x y in
    let whole : scaled c (chain_coverage p.clips 255 x y) ≡ c = ap (scaled c) full ∙ scaled_by_full c in
    ap (λ (top : Px). let t : Stack = record { top = top; groups = s.groups } in t)
    (ap (λ (k : Px). blended Normal k s.top) whole ∙ opaque_covers c s.top (colour_is_pixel store p x y h is).premultiplied (opaque_is_full store p x y h opaque e))
