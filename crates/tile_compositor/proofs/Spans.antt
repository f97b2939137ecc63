-- Spans painted plane by plane.
use Rattle.std.proofs.Common.{◌≡◌, ◌≢◌, ℕ, ◌+◌, ◌-◌, ◌*◌, ◌<◌, ◌≤◌, inl, inr, List, length, get_or, subst, ap₂, ◌∙◌, arith}
use Rattle.blend_rules.specs.declared.colour.Px.{Px}
use Rattle.blend_rules.specs.declared.plane.Plane.{Plane}
use Rattle.blend_rules.specs.declared.plane.Plane.TheVariants.{B, G, R, A}
use Rattle.blend_rules.proofs.Blends.{same_bytes}
use Rattle.span_kernels.specs.PlanesModel.{PlanesModel, byte_at}
use Rattle.span_kernels.specs.Parts.{IsPartWritten}
use Rattle.tile_compositor.specs.Laid.{IsBeside, IsPlaneLaid, IsSpanLaid}
use Rattle.tile_compositor.specs.declared.row.Span.{Span}
use Rattle.tile_compositor.proofs.Bytes.{apart}

-- what is written to a span is painted there
pub plane_painted : (f : ℕ → ℕ) (p : Plane) (span : Span) (old new : PlanesModel) (bytes : List ℕ) → span.from ≤ span.to → length bytes ≡ span.to - span.from → IsPartWritten old new p span.y span.from bytes
    → ((k : ℕ) → k < span.to - span.from → get_or bytes k 0 ≡ f (span.from + k)) → IsPlaneLaid f p span old new
plane_painted f p span old new bytes order long w each = record {
  sides = record { width = w.width; height = w.height };
  inside = λ x low high.
      let at : span.from + (x - span.from) ≡ x = omega arith in
      subst (λ (n : ℕ). byte_at p new n span.y ≡ f n) at (w.inside (x - span.from) (omega (arith, long)) ∙ each (x - span.from) (omega arith));
  outside = λ x v h far. w.outside x v h (elim far [
    | inl other ↦ inl other
    | inr (inl below) ↦ inr (inl below)
    | inr (inr above) ↦ inr (inr (omega (arith, above, long)))
  ]);
  others = w.others;
}

-- it may be named by another function that gives the same
pub plane_as : (f g : ℕ → ℕ) (p : Plane) (span : Span) (old new : PlanesModel) → ((x : ℕ) → f x ≡ g x) → IsPlaneLaid f p span old new → IsPlaneLaid g p span old new
plane_as f g p span old new same r = record { sides = r.sides; inside = λ x low high. r.inside x low high ∙ same x; outside = r.outside; others = r.others }

pub span_as : (f g : ℕ → Px) (span : Span) (old new : PlanesModel) → ((x : ℕ) → span.from ≤ x → x < span.to → f x ≡ g x) → IsSpanLaid f span old new → IsSpanLaid g span old new
span_as f g span old new same r = record { sides = r.sides; inside = λ x low high. r.inside x low high ∙ same x low high; outside = r.outside }

-- the bytes of the other planes stay
pub byte_else : (f : ℕ → ℕ) (p q : Plane) (span : Span) (old new : PlanesModel) → IsPlaneLaid f p span old new → q ≢ p → (x y : ℕ) → byte_at q new x y ≡ byte_at q old x y
byte_else f p q span old new r other x y = ap₂ (λ (bytes : List ℕ) (w : ℕ). get_or bytes (y * w + x) 0) (r.others q other) r.sides.width

module _ (f : Plane → ℕ → ℕ) (span : Span) (s t u v w : PlanesModel) (b : IsPlaneLaid (f B) B span s t) (g : IsPlaneLaid (f G) G span t u) (r : IsPlaneLaid (f R) R span u v) (a : IsPlaneLaid (f A) A span v w) where
  wide_t : t.width ≡ s.width
  wide_t = b.sides.width

  wide_u : u.width ≡ s.width
  wide_u = g.sides.width ∙ wide_t

  wide_v : v.width ≡ s.width
  wide_v = r.sides.width ∙ wide_u

  -- a span of which each plane was painted was painted
  pub span_painted : IsSpanLaid (λ x. record { b = f B x; g = f G x; r = f R x; a = f A x }) span s w
  span_painted = record {
    sides = record { width = a.sides.width ∙ wide_v; height = a.sides.height ∙ r.sides.height ∙ g.sides.height ∙ b.sides.height };
    inside = λ x low high. same_bytes _ _
        (byte_else (f A) A B span v w a (apart B A (λ e. absurd (omega (arith, e)))) x span.y ∙ byte_else (f R) R B span u v r (apart B R (λ e. absurd (omega (arith, e)))) x span.y
        ∙ byte_else (f G) G B span t u g (apart B G (λ e. absurd (omega (arith, e)))) x span.y ∙ b.inside x low high)
        (byte_else (f A) A G span v w a (apart G A (λ e. absurd (omega (arith, e)))) x span.y ∙ byte_else (f R) R G span u v r (apart G R (λ e. absurd (omega (arith, e)))) x span.y ∙ g.inside x low high)
        (byte_else (f A) A R span v w a (apart R A (λ e. absurd (omega (arith, e)))) x span.y ∙ r.inside x low high)
        (a.inside x low high);
    outside = λ x n h far. same_bytes _ _ (stays B x n h far) (stays G x n h far) (stays R x n h far) (stays A x n h far);
  } where
    stays : (q : Plane) (x n : ℕ) → x < s.width → IsBeside span x n → byte_at q w x n ≡ byte_at q s x n
    stays B x n h far =
        byte_else (f A) A B span v w a (apart B A (λ e. absurd (omega (arith, e)))) x n ∙ byte_else (f R) R B span u v r (apart B R (λ e. absurd (omega (arith, e)))) x n
        ∙ byte_else (f G) G B span t u g (apart B G (λ e. absurd (omega (arith, e)))) x n ∙ b.outside x n h far
    stays G x n h far =
        byte_else (f A) A G span v w a (apart G A (λ e. absurd (omega (arith, e)))) x n ∙ byte_else (f R) R G span u v r (apart G R (λ e. absurd (omega (arith, e)))) x n
        ∙ g.outside x n (omega (arith, h, wide_t)) far ∙ byte_else (f B) B G span s t b (apart G B (λ e. absurd (omega (arith, e)))) x n
    stays R x n h far =
        byte_else (f A) A R span v w a (apart R A (λ e. absurd (omega (arith, e)))) x n ∙ r.outside x n (omega (arith, h, wide_u)) far
        ∙ byte_else (f G) G R span t u g (apart R G (λ e. absurd (omega (arith, e)))) x n ∙ byte_else (f B) B R span s t b (apart R B (λ e. absurd (omega (arith, e)))) x n
    stays A x n h far =
        a.outside x n (omega (arith, h, wide_v)) far ∙ byte_else (f R) R A span u v r (apart A R (λ e. absurd (omega (arith, e)))) x n
        ∙ byte_else (f G) G A span t u g (apart A G (λ e. absurd (omega (arith, e)))) x n ∙ byte_else (f B) B A span s t b (apart A B (λ e. absurd (omega (arith, e)))) x n
