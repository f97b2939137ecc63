-- The spelling of each field that several parts share.
use Rattle.std.proofs.Common.{◌≡◌, ℕ, ◌≤◌, ltb, refl, sym, subst, arith}
use Rattle.std.proofs.lemmas.Bool.{ltb-false, le-ltb}
use Rattle.wr_io.specs.declared.fault.Code.TheVariants as code
use Rattle.wr_geom.specs.Bounds.{Bounds}
use Rattle.wr_geom.specs.Sides.{IsSmallCorner, AreSmallRadii, AreSmallWidths, WidthsFit, radii_fit, widths_fit}
use Rattle.wr_geom.specs.declared.sides.Radii.{Radii}
use Rattle.wr_geom.specs.declared.sides.Widths.{Widths}
use Rattle.wr_geom.proofs.Fits.{radii_fit-true, radii_fit-of, widths_fit-true, widths_fit-of}
use Rattle.field_forms.specs.Spelling.{u16_bytes, u32_bytes, i32_bytes, optional_bytes, rectangle_bytes}
use Rattle.field_forms.proofs.Passing.{HasSpelling, with_fact, refuse_if_spelling, refuse_unless_spelling, joined}
use Rattle.field_forms.proofs.Spelled.{u16_spelling, u32_spelling, reference_spelling, optional_reference_spelling, coordinate_spelling, rectangle_spelling}
use Rattle.display_list.specs.declared.item.Spot.{Spot}
use Rattle.display_list.specs.declared.item.GlyphAt.{GlyphAt}
use Rattle.display_list.specs.Facts.{AreRadii, IsSpot, IsGlyph}
use Rattle.display_list.specs.Fields.{radius, corner, corners, corner_radii, four_widths, border_widths, scroll_side, spot, glyph}
use Rattle.display_list.specs.Spelling.{corner_bytes, radii_bytes, widths_bytes, spot_bytes, glyph_bytes}

pub radius_spelling : HasSpelling radius u16_bytes (λ n. n ≤ 4096)
unfolding radius
radius_spelling =
    with_fact (λ n. n ≤ 4096) (refuse_if_spelling (ltb 4096) code.BadRadius u16_spelling) (λ n h. ltb-false 4096 n h.1) (λ n h. (omega arith, le-ltb 4096 n h))

corner_spelling : HasSpelling corner corner_bytes IsSmallCorner
unfolding corner corner_bytes
corner_spelling = record {
  spelled = λ at bytes x (n, _, _, e0, p0, (m, _, _, e1, p1, (z, w))).
      let a = radius_spelling.spelled _ _ n p0 in
      let b = radius_spelling.spelled _ _ m p1 in
      subst (λ (v : ℕ × ℕ). (bytes ≡ corner_bytes v) × IsSmallCorner v) (sym w) (joined e0 a.0 (joined e1 b.0 z), record { across = a.1; down = b.1 });
  passes = λ at x h. (x.0, u16_bytes x.0, _, refl, radius_spelling.passes _ x.0 h.across, (x.1, u16_bytes x.1, _, refl, radius_spelling.passes _ x.1 h.down, (refl, refl)));
}

corners_spelling : HasSpelling corners radii_bytes AreSmallRadii
unfolding corners radii_bytes
corners_spelling = record {
  spelled = λ at bytes x (c0, _, _, e0, p0, (c1, _, _, e1, p1, (c2, _, _, e2, p2, (c3, _, _, e3, p3, (z, w))))).
      let h = corner_spelling.spelled _ _ c0 p0 in
      let i = corner_spelling.spelled _ _ c1 p1 in
      let j = corner_spelling.spelled _ _ c2 p2 in
      let k = corner_spelling.spelled _ _ c3 p3 in
      subst (λ (v : Radii). (bytes ≡ radii_bytes v) × AreSmallRadii v) (sym w)
      (joined e0 h.0 (joined e1 i.0 (joined e2 j.0 (joined e3 k.0 z))), record { tl = h.1; tr = i.1; br = j.1; bl = k.1 });
  passes = λ at x h. (
    x.tl,
    corner_bytes x.tl,
    _,
    refl,
    corner_spelling.passes _ x.tl h.tl,
    (
      x.tr,
      corner_bytes x.tr,
      _,
      refl,
      corner_spelling.passes _ x.tr h.tr,
      (x.br, corner_bytes x.br, _, refl, corner_spelling.passes _ x.br h.br, (x.bl, corner_bytes x.bl, _, refl, corner_spelling.passes _ x.bl h.bl, (refl, refl))),
    ),
  );
}

pub corner_radii_spelling : (b : Bounds) → HasSpelling (corner_radii b) radii_bytes (AreRadii b)
unfolding corner_radii
corner_radii_spelling b =
    with_fact (AreRadii b) (refuse_unless_spelling (radii_fit b) code.BadRadius corners_spelling)
    (λ r h. record { small = h.0; fit = radii_fit-true b r h.1 })
    (λ r h. (h.small, radii_fit-of b r h.fit))

four_widths_spelling : HasSpelling four_widths widths_bytes AreSmallWidths
unfolding four_widths widths_bytes
four_widths_spelling = record {
  spelled = λ at bytes x (n0, _, _, e0, p0, (n1, _, _, e1, p1, (n2, _, _, e2, p2, (n3, _, _, e3, p3, (z, w))))).
      let h = radius_spelling.spelled _ _ n0 p0 in
      let i = radius_spelling.spelled _ _ n1 p1 in
      let j = radius_spelling.spelled _ _ n2 p2 in
      let k = radius_spelling.spelled _ _ n3 p3 in
      subst (λ (v : Widths). (bytes ≡ widths_bytes v) × AreSmallWidths v) (sym w)
      (joined e0 h.0 (joined e1 i.0 (joined e2 j.0 (joined e3 k.0 z))), record { top = h.1; right = i.1; bottom = j.1; left = k.1 });
  passes = λ at x h. (
    x.top,
    u16_bytes x.top,
    _,
    refl,
    radius_spelling.passes _ x.top h.top,
    (
      x.right,
      u16_bytes x.right,
      _,
      refl,
      radius_spelling.passes _ x.right h.right,
      (x.bottom, u16_bytes x.bottom, _, refl, radius_spelling.passes _ x.bottom h.bottom, (x.left, u16_bytes x.left, _, refl, radius_spelling.passes _ x.left h.left, (refl, refl))),
    ),
  );
}

pub border_widths_spelling : (b : Bounds) → HasSpelling (border_widths b) widths_bytes (λ v. AreSmallWidths v × WidthsFit b v)
unfolding border_widths
border_widths_spelling b =
    with_fact (λ v. AreSmallWidths v × WidthsFit b v) (refuse_unless_spelling (widths_fit b) code.BadRadius four_widths_spelling)
    (λ v h. (h.0, widths_fit-true b v h.1))
    (λ v h. (h.0, widths_fit-of b v h.1))

pub scroll_side_spelling : HasSpelling scroll_side u32_bytes (λ n. n ≤ 1048576)
unfolding scroll_side
scroll_side_spelling =
    with_fact (λ n. n ≤ 1048576) (refuse_if_spelling (ltb 1048576) code.BadNumber u32_spelling) (λ n h. ltb-false 1048576 n h.1) (λ n h. (omega arith, le-ltb 1048576 n h))

pub spot_spelling : (nodes chains : ℕ) → HasSpelling (spot nodes chains) spot_bytes (IsSpot nodes chains)
unfolding spot spot_bytes
spot_spelling nodes chains = record {
  spelled = λ at bytes x (n, _, _, e0, p0, (c, _, _, e1, p1, (r, _, _, e2, p2, (z, w)))).
      let h = (reference_spelling nodes).spelled _ _ n p0 in
      let i = (optional_reference_spelling chains).spelled _ _ c p1 in
      let j = rectangle_spelling.spelled _ _ r p2 in
      subst (λ (v : Spot). (bytes ≡ spot_bytes v) × IsSpot nodes chains v) (sym w)
      (joined e0 h.0 (joined e1 i.0 (joined e2 j.0 z)), record { node = h.1; chain = i.1; rect = j.1 });
  passes = λ at x h. (
    x.node,
    u16_bytes x.node,
    _,
    refl,
    (reference_spelling nodes).passes _ x.node h.node,
    (
      x.chain,
      optional_bytes x.chain,
      _,
      refl,
      (optional_reference_spelling chains).passes _ x.chain h.chain,
      (x.rect, rectangle_bytes x.rect, _, refl, rectangle_spelling.passes _ x.rect h.rect, (refl, refl)),
    ),
  );
}

pub glyph_spelling : HasSpelling glyph glyph_bytes IsGlyph
unfolding glyph glyph_bytes
glyph_spelling = record {
  spelled = λ at bytes x (n, _, _, e0, p0, (h, _, _, e1, p1, (v, _, _, e2, p2, (z, w)))).
      let g = u16_spelling.spelled _ _ n p0 in
      let i = coordinate_spelling.spelled _ _ h p1 in
      let j = coordinate_spelling.spelled _ _ v p2 in
      subst (λ (o : GlyphAt). (bytes ≡ glyph_bytes o) × IsGlyph o) (sym w) (joined e0 g.0 (joined e1 i.0 (joined e2 j.0 z)), record { glyph = g.1; x = i.1; y = j.1 });
  passes = λ at x h. (
    x.glyph,
    u16_bytes x.glyph,
    _,
    refl,
    u16_spelling.passes _ x.glyph h.glyph,
    (x.x, i32_bytes x.x, _, refl, coordinate_spelling.passes _ x.x h.x, (x.y, i32_bytes x.y, _, refl, coordinate_spelling.passes _ x.y h.y, (refl, refl))),
  );
}
