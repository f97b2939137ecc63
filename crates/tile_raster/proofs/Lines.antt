-- Rows painted plane by plane.
use Rattle.std.proofs.Common.{◌≡◌, ℕ, inl, inr, sym, subst, ◌∙◌, refl}
use Rattle.std.proofs.lemmas.Bool.{cases_lt}
use Rattle.blend_rules.specs.Colour.{IsPixel, product, scaled, blended, blended_channel, source_over}
use Rattle.blend_rules.specs.declared.colour.Px.{Px}
use Rattle.blend_rules.specs.declared.mode.Mode.{Mode}
use Rattle.blend_rules.specs.declared.mode.Mode.TheVariants.{Normal}
use Rattle.blend_rules.proofs.Blends.{same_bytes, normal_needs_no_limit}
use Rattle.blend_rules.proofs.Channels.{alpha_sum-rest}
use Rattle.span_kernels.specs.Bytes.{over_byte}
use Rattle.tile_raster.specs.declared.span.Span.{Span}
use Rattle.tile_raster.specs.Rows.{LineModel, pixel, HasPixels, IsLine, IsIn, IsPlanePainted, IsPainted}

-- a row whose planes were painted, each by its own rule
pub planes_painted : (f : ℕ → Px → Px) (fb fg fr fa : ℕ → ℕ → ℕ) (s : Span) (old new : LineModel)
    → IsPlanePainted fb s old.blue new.blue → IsPlanePainted fg s old.green new.green → IsPlanePainted fr s old.red new.red → IsPlanePainted fa s old.alpha new.alpha
    → ((k : ℕ) → IsIn s k → let d = pixel old k in f k d ≡ record { b = fb k d.b; g = fg k d.g; r = fr k d.r; a = fa k d.a }) → IsPainted f s old new
planes_painted f fb fg fr fa s old new b g r a law = record {
  width = a.width;
  inside = λ k h. same_bytes (pixel new k) _ (b.inside k h) (g.inside k h) (r.inside k h) (a.inside k h) ∙ sym (law k h);
  before = λ k h. same_bytes (pixel new k) (pixel old k) (b.before k h) (g.before k h) (r.before k h) (a.before k h);
  after = λ k h. same_bytes (pixel new k) (pixel old k) (b.after k h) (g.after k h) (r.after k h) (a.after k h);
}

-- it has pixels where it had some and the rule gives some
pub painted_pixels : (f : ℕ → Px → Px) (s : Span) (old new : LineModel) → IsPainted f s old new → HasPixels old → ((k : ℕ) → IsIn s k → IsPixel (f k (pixel old k))) → HasPixels new
painted_pixels f s old new h p q k = elim (cases_lt k s.from) [
  | inl less ↦ subst IsPixel (sym (h.before k less)) (p k)
  | inr low ↦ elim (cases_lt k s.to) [
    | inr more ↦ subst IsPixel (sym (h.after k more)) (p k)
    | inl high ↦ let in_span : IsIn s k = record { low = low; high = high } in subst IsPixel (sym (h.inside k in_span)) (q k in_span)
  ]
]

-- such a row
abbrev LineRule : (ℕ → Px → Px) → (ℕ → ℕ → ℕ) → (ℕ → ℕ → ℕ) → (ℕ → ℕ → ℕ) → (ℕ → ℕ → ℕ) → Span → LineModel → Type 0
LineRule f fb fg fr fa s old = (k : ℕ) → IsIn s k → let d = pixel old k in f k d ≡ record { b = fb k d.b; g = fg k d.g; r = fr k d.r; a = fa k d.a }

pub painted_line : (f : ℕ → Px → Px) (fb fg fr fa : ℕ → ℕ → ℕ) (s : Span) (old new : LineModel)
    → IsPlanePainted fb s old.blue new.blue → IsPlanePainted fg s old.green new.green → IsPlanePainted fr s old.red new.red → IsPlanePainted fa s old.alpha new.alpha
    → LineRule f fb fg fr fa s old → IsLine old → ((k : ℕ) → IsIn s k → IsPixel (f k (pixel old k))) → IsLine new
painted_line f fb fg fr fa s old new b g r a law is q = record {
  blue = b.width ∙ is.blue ∙ sym a.width;
  green = g.width ∙ is.green ∙ sym a.width;
  red = r.width ∙ is.red ∙ sym a.width;
  pixels = painted_pixels f s old new (planes_painted f fb fg fr fa s old new b g r a law) is.pixels q;
}

-- ---- the rules

pub over_by_planes : (s d : Px) → IsPixel s → IsPixel d → blended Normal s d ≡ record { b = over_byte s.a s.b d.b; g = over_byte s.a s.g d.g; r = over_byte s.a s.r d.r; a = over_byte s.a s.a d.a }
unfolding source_over
over_by_planes s d p q = normal_needs_no_limit s d p.premultiplied q.premultiplied p.byte q.byte

pub scaled_by_planes : (d : Px) (c : ℕ) → scaled d c ≡ record { b = product d.b c; g = product d.g c; r = product d.r c; a = product d.a c }
unfolding scaled
scaled_by_planes d c = refl

pub blended_by_planes : (m : Mode) (s d : Px) → IsPixel s
    → blended m s d ≡ record { b = blended_channel m s.a d.a s.b d.b; g = blended_channel m s.a d.a s.g d.g; r = blended_channel m s.a d.a s.r d.r; a = over_byte s.a s.a d.a }
unfolding blended
blended_by_planes m s d p = same_bytes _ _ refl refl refl (alpha_sum-rest s.a d.a p.byte)
