-- Rows of clear or opaque colours, laid over a span.
use Rattle.std.proofs.Common.{◌≡◌, ◌<◌, ◌≤◌, ◌-◌, ℕ, sym, ap, refl, ◌∙◌, arith}
use Rattle.blend_rules.specs.Colour.{IsPixel, blended, clear}
use Rattle.blend_rules.specs.declared.colour.Px.{Px}
use Rattle.blend_rules.specs.declared.mode.Mode.TheVariants.{Normal}
use Rattle.blend_rules.proofs.Blends.{same_bytes, clear_source_leaves, opaque_covers}
use Rattle.span_kernels.specs.PlanesModel.{PlanesModel, pixel_at}
use Rattle.span_kernels.specs.declared.planes.Row.{Row}
use Rattle.tile_compositor.specs.Laid.{IsSpanIn, IsRowOf, IsSpanLaid, row_colour}
use Rattle.tile_compositor.specs.declared.row.Span.{Span}
use Rattle.tile_compositor.proofs.Spans.{span_as}

-- a pixel without alpha is clear
pub is_clear : (p : Px) → IsPixel p → p.a ≤ 0 → p ≡ clear
is_clear p h none = let i = h.premultiplied in
    let b : p.b ≡ 0 = omega (arith, none, i.blue) in
    let g : p.g ≡ 0 = omega (arith, none, i.green) in
    let r : p.r ≡ 0 = omega (arith, none, i.red) in
    let a : p.a ≡ 0 = omega (arith, none) in
    same_bytes p clear b g r a

-- what is below a clear pixel stays
pub clear_leaves : (p below : Px) → IsPixel p → p.a ≤ 0 → IsPixel below → below ≡ blended Normal p below
clear_leaves p below h none d = sym (ap (λ (c : Px). blended Normal c below) (is_clear p h none) ∙ clear_source_leaves Normal below d.premultiplied d.byte)

-- an opaque pixel hides what is below it
pub opaque_hides : (p below : Px) → IsPixel p → 255 ≤ p.a → p ≡ blended Normal p below
opaque_hides p below h full = let b = h.byte in let a : p.a ≡ 255 = omega arith in sym (opaque_covers p below h.premultiplied a)

module _ (row : Row) (span : Span) (s : PlanesModel) (i : IsSpanIn s span) (source : IsRowOf (span.to - span.from) row) where
  pub clear_span : ((x : ℕ) → x < s.width → IsPixel (pixel_at s x span.y)) → ((k : ℕ) → k < span.to - span.from → (row_colour row k).a ≤ 0)
      → IsSpanLaid (λ x. blended Normal (row_colour row (x - span.from)) (pixel_at s x span.y)) span s s
  clear_span frame none = record {
    sides = record { width = refl; height = refl };
    inside = λ x low high.
        let at : x - span.from < span.to - span.from = omega (arith, low, high) in
        clear_leaves (row_colour row (x - span.from)) (pixel_at s x span.y) (source.pixels (x - span.from) at) (none (x - span.from) at) (frame x (omega (arith, high, i.inside)));
    outside = λ x y h far. refl;
  }

  pub opaque_span : (t : PlanesModel) → ((k : ℕ) → k < span.to - span.from → 255 ≤ (row_colour row k).a) → IsSpanLaid (λ x. row_colour row (x - span.from)) span s t
      → IsSpanLaid (λ x. blended Normal (row_colour row (x - span.from)) (pixel_at s x span.y)) span s t
  opaque_span t full painted = span_as (λ x. row_colour row (x - span.from)) (λ x. blended Normal (row_colour row (x - span.from)) (pixel_at s x span.y)) span s t
      (λ x low high.
      let at : x - span.from < span.to - span.from = omega (arith, low, high) in
      opaque_hides (row_colour row (x - span.from)) (pixel_at s x span.y) (source.pixels (x - span.from) at) (full (x - span.from) at)) painted
