-- The colour of a primitive at a point.
use Rattle.std.specs.Prelude.{ℕ, ◌+◌, ◌%◌, ℤ, pos, ◌-ℤ◌, unsigned_abs, Option, Some, None, List, if◌then◌else◌}
use Rattle.std.specs.List.{fold}
use Rattle.wr_geom.specs.Bounds.{Bounds, holds}
use Rattle.wr_geom.specs.declared.point.Point.{Point}
use Rattle.blend_rules.specs.declared.colour.Px.{Px}
use Rattle.blend_rules.specs.declared.mode.Mode.TheVariants.{Normal}
use Rattle.blend_rules.specs.Colour.{clear, scaled, blended}
use Rattle.clip_masks.specs.Coverage.{chain_coverage, cut_by}
use Rattle.image_store.specs.Models.{ImageModel, MaskModel, texel_of, mask_byte}
use Rattle.image_store.specs.StoreModel.{StoreModel, image_at, glyph_at}
use Rattle.primitives.specs.declared.kind.GlyphUse.{GlyphUse}
use Rattle.primitives.specs.declared.kind.Kind.{Kind}
use Rattle.primitives.specs.declared.kind.Kind.TheVariants as kind
use Rattle.primitives.specs.PrimitiveModel.{PrimitiveModel}
use Rattle.primitives.specs.Borders.{border_colour, pixels_before}

-- what a use draws of what is stored now: nothing where it carries no generation
abbrev pub resource_of_use : {A : Type 0} → Option ℕ → Option A → Option A
resource_of_use None stored = None
resource_of_use (Some generation) stored = stored

-- ---- images

-- the texel at a column and row of an image that is repeated on both axes, clear where there is no image
abbrev pub repeated_texel : Option ImageModel → ℕ → ℕ → Px
repeated_texel None column row = clear
repeated_texel (Some image) column row = texel_of image (column % image.w) (row % image.h)

-- an image's colour at the pixel (x, y) of a rectangle in whose first corner its texel (u, v) lies
abbrev pub image_colour : Option ImageModel → Bounds → ℕ → ℕ → ℤ → ℤ → Px
image_colour image b u v x y = repeated_texel image (pixels_before b.x0 x + u) (pixels_before b.y0 y + v)

-- ---- text

-- the rectangle of a mask whose first corner lies at (0, 0)
abbrev pub mask_rect : MaskModel → Bounds
mask_rect m = record { x0 = pos 0; y0 = pos 0; x1 = pos m.w; y1 = pos m.h }

-- a mask's byte at (x, y), relative to its first corner: 0 outside of it, and where there is no mask
unfoldable pub mask_coverage : Option MaskModel → ℤ → ℤ → ℕ
mask_coverage None x y = 0
mask_coverage (Some m) x y = if holds (mask_rect m) x y then mask_byte m (unsigned_abs x) (unsigned_abs y) else 0

-- a colour under a mask whose first corner lies at a point, over what is so far at the pixel (x, y)
abbrev pub mask_over : Option MaskModel → Point → Px → Px → ℤ → ℤ → Px
mask_over mask at colour so_far x y = blended Normal (scaled colour (mask_coverage mask (x -ℤ at.x) (y -ℤ at.y))) so_far

-- one glyph more over what is so far: the text's colour under the glyph's mask
abbrev pub glyph_use_over : StoreModel → ℕ → ℕ → Px → ℤ → ℤ → Px → GlyphUse → Px
glyph_use_over store pipeline font colour x y so_far g =
    mask_over (resource_of_use g.generation (glyph_at store pipeline font g.glyph)) (record { x = g.x; y = g.y }) colour so_far x y

-- the glyphs in order, from clear
abbrev pub text_colour : StoreModel → ℕ → ℕ → Px → List GlyphUse → ℤ → ℤ → Px
text_colour store pipeline font colour glyphs x y = fold (glyph_use_over store pipeline font colour x y) clear glyphs

-- ---- primitives

-- what is shown at the pixel (x, y) of the rectangle
abbrev pub kind_colour : StoreModel → Bounds → Kind → ℤ → ℤ → Px
kind_colour store b (kind.Solid colour) x y = colour
kind_colour store b (kind.Image pipeline key generation u v) x y = image_colour (resource_of_use generation (image_at store pipeline key)) b u v x y
kind_colour store b (kind.Border widths top right bottom l radii) x y = border_colour b widths (record { top = top; right = right; bottom = bottom; left = l }) radii x y
kind_colour store b (kind.Text pipeline font colour glyphs) x y = text_colour store pipeline font colour glyphs x y

-- a primitive's colour at the pixel (x, y): clear outside of its rectangle
unfoldable pub primitive_colour : StoreModel → PrimitiveModel → ℤ → ℤ → Px
primitive_colour store p x y = if holds p.rect x y then kind_colour store p.rect p.kind x y else clear

-- that colour as far as its clips cover the pixel
unfoldable pub covered_colour : StoreModel → PrimitiveModel → ℤ → ℤ → Px
covered_colour store p x y = scaled (primitive_colour store p x y) (chain_coverage p.clips 255 x y)

-- its rectangle cut by the rectangle of each of its clips of mode in
abbrev pub visible_rect : PrimitiveModel → Bounds
visible_rect p = cut_by p.rect p.clips
