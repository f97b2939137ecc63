-- Rows of tiles over spans of a frame.
use Rattle.std.proofs.Common.{◌≡◌, ◌<◌, ◌≤◌, ◌+◌, ◌-◌, ℕ, pos, ◌-ℤ◌, List, length, take, drop, get_or, subst, sym, ap, ◌∙◌, arith}
use Rattle.std.proofs.lemmas.Int.{ints}
use Rattle.std.proofs.lemmas.List.{get_or-take, get_or-drop, length-take-le, length-drop}
use Rattle.wr_geom.specs.Bounds.{width_of}
use Rattle.wr_geom.specs.declared.point.Point.{Point}
use Rattle.wr_geom.proofs.Points.{IsInside, holds_it}
use Rattle.blend_rules.specs.declared.plane.Plane.{Plane}
use Rattle.blend_rules.specs.declared.plane.Plane.TheVariants.{B, G, R, A}
use Rattle.blend_rules.specs.Colour.{IsPixel}
use Rattle.blend_rules.proofs.Blends.{same_bytes}
use Rattle.span_kernels.specs.PlanesModel.{byte_at}
use Rattle.span_kernels.specs.declared.planes.Row.{Row}
use Rattle.tile_store.specs.declared.tile.Tile.{Tile}
use Rattle.tile_store.specs.Tiles.{tile_row, column_of, row_of}
use Rattle.tile_compositor.specs.Laid.{IsRowOf, bytes_in, row_colour}
use Rattle.tile_compositor.specs.Composition.{IsSpanOver, HasAllPixels, tile_colour}
use Rattle.tile_compositor.specs.declared.row.Span.{Span}
use Rattle.tile_compositor.proofs.Bytes.{part_byte}

module _ {T : Type 0} (tile : Tile T) (origin : Point) (span : Span) (start : ℕ) (over : IsSpanOver tile.rect origin span) (order : span.from ≤ span.to)
    (at : start ≡ column_of tile.rect (pos span.from -ℤ origin.x)) where
  -- the columns that lie over a span are columns of the tile
  pub columns_fit : start + (span.to - span.from) ≤ width_of tile.rect
  columns_fit = let a = over.left in let b = over.right in omega (arith, ints, at)

  column_is : (k : ℕ) → k < span.to - span.from → 0 + (start + k) ≡ column_of tile.rect (pos (span.from + k) -ℤ origin.x)
  column_is k h = let a = over.left in omega (arith, ints, at)

  -- a point of the tile over each column
  point_inside : (k : ℕ) → k < span.to - span.from → IsInside tile.rect (pos (span.from + k) -ℤ origin.x) (pos span.y -ℤ origin.y)
  point_inside k h =
      let a = over.left in let b = over.right in let c = over.top in let d = over.bottom in
      record { left = omega (arith, ints); right = omega (arith, ints); top = omega (arith, ints); bottom = omega (arith, ints) }

  module _ (row source : Row) (rows : (p : Plane) → bytes_in p row ≡ tile_row p (pos span.y -ℤ origin.y) tile) (long : (p : Plane) → length (bytes_in p row) ≡ width_of tile.rect)
      (cut : (p : Plane) → bytes_in p source ≡ take (span.to - span.from) (drop start (bytes_in p row))) where
    pub source_long : (p : Plane) → length (bytes_in p source) ≡ span.to - span.from
    source_long p = ap length (cut p) ∙ length-take-le (span.to - span.from) (drop start (bytes_in p row)) (omega (arith, columns_fit, long p, length-drop start (bytes_in p row)))

    source_byte : (p : Plane) (k : ℕ) → k < span.to - span.from
        → get_or (bytes_in p source) k 0 ≡ byte_at p tile.planes (column_of tile.rect (pos (span.from + k) -ℤ origin.x)) (row_of tile.rect (pos span.y -ℤ origin.y))
    source_byte p k h =
        ap (λ (l : List ℕ). get_or l k 0) (cut p)
        ∙ get_or-take (span.to - span.from) (drop start (bytes_in p row)) k 0 h
        ∙ get_or-drop start (bytes_in p row) k 0
        ∙ ap (λ (l : List ℕ). get_or l (start + k) 0) (rows p)
        ∙ part_byte p tile.planes (row_of tile.rect (pos span.y -ℤ origin.y)) 0 (width_of tile.rect) (start + k) (omega (arith, h, columns_fit))
        ∙ ap (λ (x : ℕ). byte_at p tile.planes x (row_of tile.rect (pos span.y -ℤ origin.y))) (column_is k h)

    pub source_colour : (k : ℕ) → k < span.to - span.from → row_colour source k ≡ tile_colour tile (pos (span.from + k) -ℤ origin.x) (pos span.y -ℤ origin.y)
    source_colour k h = same_bytes _ _ (source_byte B k h) (source_byte G k h) (source_byte R k h) (source_byte A k h)

    pub source_row : HasAllPixels tile → IsRowOf (span.to - span.from) source
    source_row pixels = record {
      long = source_long;
      pixels = λ k h. subst IsPixel (sym (source_colour k h))
          (pixels (pos (span.from + k) -ℤ origin.x) (pos span.y -ℤ origin.y) (holds_it tile.rect (pos (span.from + k) -ℤ origin.x) (pos span.y -ℤ origin.y) (point_inside k h)));
    }

-- what is known of all four planes of a row, plane by plane
pub of_planes : (P : Plane → Type 0) → P B → P G → P R → P A → (p : Plane) → P p
of_planes P b g r a B = b
of_planes P b g r a G = g
of_planes P b g r a R = r
of_planes P b g r a A = a
