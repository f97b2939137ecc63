-- A span of a plane, written over.
use Rattle.std.proofs.Common.{◌≡◌, ◌≢◌, ℕ, ◌+◌, ◌-◌, ◌<◌, ◌≤◌, List, length, take, drop, slice_index, inl, inr, sym, ap, subst, ◌∙◌, arith}
use Rattle.std.proofs.lemmas.List.{get_or-take, get_or-drop}
use Rattle.blend_rules.specs.declared.plane.Plane.{Plane}
use Rattle.blend_rules.specs.declared.plane.Plane.TheVariants.{B, G, R, A}
use Rattle.blend_rules.specs.Colour.{blended_channel}
use Rattle.blend_rules.specs.declared.mode.Mode.{Mode}
use Rattle.span_kernels.specs.Bytes.{over_byte}
use Rattle.span_kernels.specs.PlanesModel.{overwritten}
use Rattle.span_kernels.proofs.Parts.{length-overwritten, overwritten_inside, overwritten_else}
use Rattle.tile_raster.specs.declared.span.Span.{Span}
use Rattle.tile_raster.specs.Rows.{IsSpan, IsPlanePainted}

-- the bytes of a part
pub part_at : (xs part : List ℕ) (at n j : ℕ) → part ≡ take n (drop at xs) → j < n → slice_index part j ≡ slice_index xs (at + j)
part_at xs part at n j e h = ap (λ (l : List ℕ). slice_index l j) e ∙ get_or-take n (drop at xs) j 0 h ∙ get_or-drop at xs j 0

pub painted_part : (f : ℕ → ℕ → ℕ) (s : Span) (xs new : List ℕ) (at : ℕ) → at ≡ s.from → IsSpan s (length xs) → length new ≡ s.to - s.from
    → ((j : ℕ) → j < length new → slice_index new j ≡ f (s.from + j) (slice_index xs (s.from + j))) → IsPlanePainted f s xs (overwritten xs at new)
painted_part f s xs new at e is len each =
    let fits : at + length new ≤ length xs = omega (arith, e, is.order, is.inside, len) in
    record {
      width = length-overwritten xs at new fits;
      inside = λ k h.
          let j = k - at in
          let back : at + j ≡ k = omega (arith, e, h.low) in
          let less : j < length new = omega (arith, e, h.low, h.high, len) in
          ap (λ (i : ℕ). slice_index (overwritten xs at new) i) (sym back) ∙ overwritten_inside xs at new fits j less ∙ each j less
          ∙ ap (λ (i : ℕ). f i (slice_index xs i)) (omega (arith, e, back));
      before = λ k h. overwritten_else xs at new fits k (inl (omega (arith, e, h)));
      after = λ k h. overwritten_else xs at new fits k (inr (omega (arith, e, h, len, is.order)));
    }

-- a plane blended under equal rows
pub blended_under : (m : Mode) (sa sb da db s t : List ℕ) (span : Span) (old new : List ℕ) → sa ≡ sb → da ≡ db → s ≡ t
    → IsPlanePainted (λ k d. blended_channel m (slice_index sa k) (slice_index da k) (slice_index s k) d) span old new
    → IsPlanePainted (λ k d. blended_channel m (slice_index sb k) (slice_index db k) (slice_index t k) d) span old new
blended_under m sa sb da db s t span old new e f g h =
    subst (λ (l : List ℕ). IsPlanePainted (λ k d. blended_channel m (slice_index sb k) (slice_index db k) (slice_index l k) d) span old new) g
    (subst (λ (l : List ℕ). IsPlanePainted (λ k d. blended_channel m (slice_index sb k) (slice_index l k) (slice_index s k) d) span old new) f
    (subst (λ (l : List ℕ). IsPlanePainted (λ k d. blended_channel m (slice_index l k) (slice_index da k) (slice_index s k) d) span old new) e h))

pub over_under : (sa sb : List ℕ) (span : Span) (old new : List ℕ) → sa ≡ sb
    → IsPlanePainted (λ k d. over_byte (slice_index sa k) (slice_index sa k) d) span old new
    → IsPlanePainted (λ k d. over_byte (slice_index sb k) (slice_index sb k) d) span old new
over_under sa sb span old new e h = subst (λ (l : List ℕ). IsPlanePainted (λ k d. over_byte (slice_index l k) (slice_index l k) d) span old new) e h

-- ---- planes are apart

abbrev number : Plane → ℕ
number B = 0
number G = 1
number R = 2
number A = 3

pub apart : (p q : Plane) → number p ≢ number q → p ≢ q
apart p q h e = h (ap number e)

pub b≢g : B ≢ G
b≢g = apart B G (λ e. omega (arith, e))

pub b≢r : B ≢ R
b≢r = apart B R (λ e. omega (arith, e))

pub b≢a : B ≢ A
b≢a = apart B A (λ e. omega (arith, e))

pub g≢r : G ≢ R
g≢r = apart G R (λ e. omega (arith, e))

pub g≢a : G ≢ A
g≢a = apart G A (λ e. omega (arith, e))

pub r≢a : R ≢ A
r≢a = apart R A (λ e. omega (arith, e))
