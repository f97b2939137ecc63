-- Spans of rows, painted one after another.
use Rattle.std.proofs.Common.{◌≡◌, ℕ, ◌<◌, ◌≤◌, ◌⊎◌, inl, inr, Bool, true, false, if◌then◌else◌, refl, sym, ap, ◌∙◌, arith}
use Rattle.std.proofs.lemmas.Bool.{cases_lt}
use Rattle.blend_rules.specs.declared.colour.Px.{Px}
use Rattle.batching.specs.Depths.{Depths, depth_at, is_at_most}
use Rattle.tile_raster.specs.declared.span.Span.{Span}
use Rattle.tile_raster.specs.Rows.{LineModel, pixel, IsIn, IsPainted}
use Rattle.tile_raster.specs.Spans.{painted_above}

-- a span and another after it, where the rule of both changes nothing between them
pub painted_on : (g f : ℕ → Px → Px) (done part both : Span) (r s t : LineModel) → both.from ≡ done.from → both.to ≡ part.to → done.from ≤ done.to → done.to ≤ part.from → part.from ≤ part.to
    → ((k : ℕ) (d : Px) → done.to ≤ k → k < part.from → g k d ≡ d) → ((k : ℕ) (d : Px) → IsIn part k → g k d ≡ f k d) → IsPainted g done r s → IsPainted f part s t → IsPainted g both r t
painted_on g f done part both r s t e1 e2 o1 o2 o3 still same h m = record {
  width = m.width ∙ h.width;
  inside = λ k i. elim (cases_lt k done.to) [
    | inl less ↦ m.before k (omega (arith, less, o2)) ∙ h.inside k (record { low = omega (arith, i.low, e1); high = less })
    | inr more ↦ elim (cases_lt k part.from) [
      | inl between ↦ m.before k between ∙ h.after k more ∙ sym (still k (pixel r k) more between)
      | inr low ↦ let here : IsIn part k = record { low = low; high = omega (arith, i.high, e2) } in
          m.inside k here ∙ ap (f k) (h.after k more) ∙ sym (same k (pixel r k) here)
    ]
  ];
  before = λ k i. m.before k (omega (arith, i, e1, o1, o2)) ∙ h.before k (omega (arith, i, e1));
  after = λ k i. m.after k (omega (arith, i, e2)) ∙ h.after k (omega (arith, i, e2, o2, o3));
}

-- a wider span, where the rule changes nothing beside the other
pub painted_wider : (g : ℕ → Px → Px) (part whole : Span) (r s : LineModel) → whole.from ≤ part.from → part.to ≤ whole.to
    → ((k : ℕ) → IsIn whole k → (k < part.from) ⊎ (part.to ≤ k) → g k (pixel r k) ≡ pixel r k) → IsPainted g part r s → IsPainted g whole r s
painted_wider g part whole r s a b still h = record {
  width = h.width;
  inside = λ k i. elim (cases_lt k part.from) [
    | inl less ↦ h.before k less ∙ sym (still k i (inl less))
    | inr low ↦ elim (cases_lt k part.to) [
      | inl high ↦ h.inside k (record { low = low; high = high })
      | inr more ↦ h.after k more ∙ sym (still k i (inr more))
    ]
  ];
  before = λ k i. h.before k (omega (arith, i, a));
  after = λ k i. h.after k (omega (arith, i, b));
}

-- an empty span of an unchanged row
pub painted_none : (g : ℕ → Px → Px) (s : Span) (r : LineModel) → s.to ≤ s.from → IsPainted g s r r
painted_none g s r e = record { width = refl; inside = λ k i. absurd (omega (arith, e, i.low, i.high)); before = λ k i. refl; after = λ k i. refl }

-- the same by another rule
pub painted_as : (f g : ℕ → Px → Px) (s : Span) (r t : LineModel) → ((k : ℕ) → IsIn s k → f k (pixel r k) ≡ g k (pixel r k)) → IsPainted f s r t → IsPainted g s r t
painted_as f g s r t e h = record { width = h.width; inside = λ k i. h.inside k i ∙ e k i; before = h.before; after = h.after }

-- one rule after another
pub painted_twice : (f g : ℕ → Px → Px) (s : Span) (r t u : LineModel) → IsPainted f s r t → IsPainted g s t u → IsPainted (λ k d. g k (f k d)) s r u
painted_twice f g s r t u h m = record {
  width = m.width ∙ h.width;
  inside = λ k i. m.inside k i ∙ ap (g k) (h.inside k i);
  before = λ k i. m.before k i ∙ h.before k i;
  after = λ k i. m.after k i ∙ h.after k i;
}

-- ---- above what covers

pub above_passes : (f : ℕ → Px → Px) (limit : ℕ) (cover : Depths) (k : ℕ) (d : Px) → is_at_most limit (depth_at cover k) ≡ true → painted_above f limit cover k d ≡ f k d
above_passes f limit cover k d e = ap (λ (b : Bool). if b then f k d else d) e

pub above_fails : (f : ℕ → Px → Px) (limit : ℕ) (cover : Depths) (k : ℕ) (d : Px) → is_at_most limit (depth_at cover k) ≡ false → painted_above f limit cover k d ≡ d
above_fails f limit cover k d e = ap (λ (b : Bool). if b then f k d else d) e

-- a rule that leaves a colour leaves it above what covers too
pub above_still : (f : ℕ → Px → Px) (limit : ℕ) (cover : Depths) (k : ℕ) (d : Px) → f k d ≡ d → painted_above f limit cover k d ≡ d
above_still f limit cover k d e = by_test (is_at_most limit (depth_at cover k))
  where
    by_test : (b : Bool) → (if b then f k d else d) ≡ d
    by_test true = e
    by_test false = refl

-- a row that a rule leaves
pub painted_same : (f : ℕ → Px → Px) (s : Span) (r : LineModel) → ((k : ℕ) (d : Px) → f k d ≡ d) → IsPainted f s r r
painted_same f s r e = record { width = refl; inside = λ k i. sym (e k (pixel r k)); before = λ k i. refl; after = λ k i. refl }
