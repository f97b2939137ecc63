-- Planes of which a part was painted.
use Rattle.std.specs.Prelude.{◌≡◌, ◌≢◌, ℕ, ◌<◌, ◌≤◌, ◌-◌, ◌⊎◌, pos, Bool, IsTrue, IsFalse, List, length, slice_index_or}
use Rattle.wr_geom.specs.Bounds.{Bounds, holds}
use Rattle.blend_rules.specs.Colour.{IsPixel, blended}
use Rattle.blend_rules.specs.declared.mode.Mode.TheVariants.{Normal}
use Rattle.blend_rules.specs.declared.colour.Px.{Px}
use Rattle.blend_rules.specs.declared.plane.Plane.{Plane}
use Rattle.blend_rules.specs.declared.plane.Plane.TheVariants.{B, G, R, A}
use Rattle.span_kernels.specs.PlanesModel.{PlanesModel, byte_at, pixel_at, plane_of}
use Rattle.span_kernels.specs.declared.planes.Row.{Row}
use Rattle.tile_compositor.specs.declared.part.Part.{Part}
use Rattle.tile_compositor.specs.declared.row.Span.{Span}

-- the rectangle of a frame, from (0, 0)
abbrev pub frame_rect : PlanesModel → Bounds
frame_rect planes = record { x0 = pos 0; y0 = pos 0; x1 = pos planes.width; y1 = pos planes.height }

-- each colour of planes is premultiplied and of four bytes
abbrev pub AreAllPixels : PlanesModel → Type 0
AreAllPixels planes = (x y : ℕ) → x < planes.width → y < planes.height → IsPixel (pixel_at planes x y)

-- two have the same sides
pub record KeepSides (old new : PlanesModel) : Type 0 where
  pub width : new.width ≡ old.width
  pub height : new.height ≡ old.height

-- ---- rows of a source

-- the bytes of one plane of a row
abbrev pub bytes_in : Plane → Row → List ℕ
bytes_in B row = row.b.now
bytes_in G row = row.g.now
bytes_in R row = row.r.now
bytes_in A row = row.a.now

-- the colour at an index of a row
abbrev pub row_colour : Row → ℕ → Px
row_colour row k = record {
  b = slice_index_or (bytes_in B row) k 0;
  g = slice_index_or (bytes_in G row) k 0;
  r = slice_index_or (bytes_in R row) k 0;
  a = slice_index_or (bytes_in A row) k 0;
}

-- the byte of a row in a column of a span
abbrev pub span_byte : List ℕ → Span → ℕ → ℕ
span_byte bytes span x = slice_index_or bytes (x - span.from) 0

-- the colour of a row in a column of a span
abbrev pub span_colour : Row → Span → ℕ → Px
span_colour row span x = row_colour row (x - span.from)

-- a row's colours over what planes have in a span
abbrev pub span_over : Row → Span → PlanesModel → ℕ → Px
span_over row span planes x = blended Normal (span_colour row span x) (pixel_at planes x span.y)

-- a row of so many premultiplied colours
pub record IsRowOf (count : ℕ) (row : Row) : Type 0 where
  pub long : (plane : Plane) → length (bytes_in plane row) ≡ count
  pub pixels : (k : ℕ) → k < count → IsPixel (row_colour row k)

-- ---- parts that were painted

-- some columns of a row of planes
pub record IsSpanIn (planes : PlanesModel) (span : Span) : Type 0 where
  pub row : span.y < planes.height
  pub order : span.from ≤ span.to
  pub inside : span.to ≤ planes.width

-- (x, y) doesn't lie in a span
abbrev pub IsBeside : Span → ℕ → ℕ → Type 0
IsBeside span x y = (y ≢ span.y) ⊎ (x < span.from) ⊎ (span.to ≤ x)

-- New has in one plane of a span the byte that f gives of the column. Every other byte is as it was.
pub record IsPlaneLaid (f : ℕ → ℕ) (plane : Plane) (span : Span) (old new : PlanesModel) : Type 0 where
  pub sides : KeepSides old new
  pub inside : (x : ℕ) → span.from ≤ x → x < span.to → byte_at plane new x span.y ≡ f x
  pub outside : (x y : ℕ) → x < old.width → IsBeside span x y → byte_at plane new x y ≡ byte_at plane old x y
  pub others : (other : Plane) → other ≢ plane → plane_of other new ≡ plane_of other old

-- New has in a span the colour that f gives of the column. Every other colour is as it was.
pub record IsSpanLaid (f : ℕ → Px) (span : Span) (old new : PlanesModel) : Type 0 where
  pub sides : KeepSides old new
  pub inside : (x : ℕ) → span.from ≤ x → x < span.to → pixel_at new x span.y ≡ f x
  pub outside : (x y : ℕ) → x < old.width → IsBeside span x y → pixel_at new x y ≡ pixel_at old x y

-- New has, wherever a test passes, the colour that f gives of the column and the row. Every other colour is as it was.
pub record IsLaid (f : ℕ → ℕ → Px) (test : ℕ → ℕ → Bool) (old new : PlanesModel) : Type 0 where
  pub sides : KeepSides old new
  pub inside : (x y : ℕ) → x < old.width → y < old.height → IsTrue (test x y) → pixel_at new x y ≡ f x y
  pub outside : (x y : ℕ) → x < old.width → y < old.height → IsFalse (test x y) → pixel_at new x y ≡ pixel_at old x y

-- whether a pixel of a frame lies in a rectangle
abbrev pub lies_in : Bounds → ℕ → ℕ → Bool
lies_in part x y = holds part (pos x) (pos y)

-- a part that lies in planes
pub record IsPartIn (planes : PlanesModel) (part : Part) : Type 0 where
  pub across : part.left ≤ part.right
  pub down : part.top ≤ part.bottom
  pub right : part.right ≤ planes.width
  pub bottom : part.bottom ≤ planes.height

-- the rectangle of a part
abbrev pub bounds_of : Part → Bounds
bounds_of part = record { x0 = pos part.left; y0 = pos part.top; x1 = pos part.right; y1 = pos part.bottom }
