-- Strips in which an opaque primitive is taken, one after another.
use Rattle.std.proofs.Common.{◌≡◌, ℕ, ◌≤◌, inl, inr, Option, Some, None, true, refl, sym, ◌∙◌, arith, true≢false}
use Rattle.std.proofs.lemmas.Bool.{cases_lt}
use Rattle.batching.specs.Depths.{Depths, is_open}
use Rattle.wr_geom.specs.declared.point.Point.{Point}
use Rattle.tile_raster.specs.declared.span.Span.{Span}
use Rattle.tile_raster.specs.declared.strip.Strip.{Strip}
use Rattle.tile_raster.specs.declared.note.Noted.{Noted}
use Rattle.tile_raster.specs.Rows.{LineModel}
use Rattle.tile_raster.specs.Rasters.{IsLeft, AreTaken}

pub none_open : (o : Option ℕ) → is_open o ≡ true → o ≡ None
none_open None e = refl
none_open (Some d) e = absurd (true≢false (sym e))

left_on : (o m n : Depths) (r s t : LineModel) (k : ℕ) → IsLeft o m r s k → IsLeft m n s t k → IsLeft o n r t k
left_on o m n r s t k a b = record { depth = b.depth ∙ a.depth; colour = b.colour ∙ a.colour }

abbrev strip : Point → Span → Strip
strip first span = record { first = first; span = span }

-- a strip and another after it
pub taken_on : (t : Noted) (first : Point) (done part both : Span) (o m n : Depths) (r s u : LineModel) → both.from ≡ done.from → both.to ≡ part.to → done.from ≤ done.to → done.to ≤ part.from → part.from ≤ part.to
    → AreTaken t (strip first done) o m r s → AreTaken t (strip first part) m n s u → AreTaken t (strip first both) o n r u
taken_on t first done part both o m n r s u e1 e2 o1 o2 o3 h i = record {
  cover = i.cover ∙ h.cover;
  width = i.width ∙ h.width;
  inside = λ k w. elim (cases_lt k done.to) [
    | inl less ↦ let then = i.before k (omega (arith, less, o2)) in elim (h.inside k (record { low = omega (arith, w.low, e1); high = less })) [
      | inl left ↦ inl (left_on o m n r s u k left then)
      | inr taken ↦ inr (record { was_open = taken.was_open; depth = then.depth ∙ taken.depth; colour = then.colour ∙ taken.colour; inside = taken.inside; whole = taken.whole })
    ]
    | inr more ↦ let first = h.after k more in elim (cases_lt k part.from) [
      | inl between ↦ inl (left_on o m n r s u k first (i.before k between))
      | inr low ↦ elim (i.inside k (record { low = low; high = omega (arith, w.high, e2) })) [
        | inl left ↦ inl (left_on o m n r s u k first left)
        | inr taken ↦ inr (record { was_open = sym first.depth ∙ taken.was_open; depth = taken.depth; colour = taken.colour; inside = taken.inside; whole = taken.whole })
      ]
    ]
  ];
  before = λ k w. left_on o m n r s u k (h.before k (omega (arith, w, e1))) (i.before k (omega (arith, w, e1, o1, o2)));
  after = λ k w. left_on o m n r s u k (h.after k (omega (arith, w, e2, o2, o3))) (i.after k (omega (arith, w, e2)));
}

-- a wider strip
pub taken_wider : (t : Noted) (first : Point) (part whole : Span) (o n : Depths) (r s : LineModel) → whole.from ≤ part.from → part.to ≤ whole.to
    → AreTaken t (strip first part) o n r s → AreTaken t (strip first whole) o n r s
taken_wider t first part whole o n r s a b h = record {
  cover = h.cover;
  width = h.width;
  inside = λ k w. elim (cases_lt k part.from) [
    | inl less ↦ inl (h.before k less)
    | inr low ↦ elim (cases_lt k part.to) [
      | inl high ↦ h.inside k (record { low = low; high = high })
      | inr more ↦ inl (h.after k more)
    ]
  ];
  before = λ k w. h.before k (omega (arith, w, a));
  after = λ k w. h.after k (omega (arith, w, b));
}

-- an empty strip
pub taken_none : (t : Noted) (first : Point) (s : Span) (o : Depths) (r : LineModel) → s.to ≤ s.from → AreTaken t (strip first s) o o r r
taken_none t first s o r e = record {
  cover = refl;
  width = refl;
  inside = λ k w. absurd (omega (arith, e, w.low, w.high));
  before = λ k w. record { depth = refl; colour = refl };
  after = λ k w. record { depth = refl; colour = refl };
}
