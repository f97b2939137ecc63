use Rattle.std.proofs.Common.{ℕ, ◌+◌, ◌<◌, List, get_or, ◌≡◌, inl, inr, subst, refl, arith}
use Rattle.std.proofs.lemmas.Bool.{cases_lt}
use Rattle.std.proofs.lemmas.List.{get_or_default}
use Rattle.primitives.specs.declared.kind.GlyphUse.{GlyphUse}
use Rattle.primitives.specs.PrimitiveModel.{IsGlyphUse}
use Rattle.primitives.proofs.kind.are_near.Goals as goal

-- one more glyph
one_more : (glyphs : List GlyphUse) (i : ℕ) → ((k : ℕ) (d : GlyphUse) → k < i → IsGlyphUse (get_or glyphs k d)) → ((d : GlyphUse) → IsGlyphUse (get_or glyphs i d))
    → (k : ℕ) (d : GlyphUse) → k < i + 1 → IsGlyphUse (get_or glyphs k d)
one_more glyphs i before here k d h = elim (cases_lt k i) [
  | inl l ↦ before k d l
  | inr n ↦ let e : i ≡ k = omega arith in subst (λ (j : ℕ). IsGlyphUse (get_or glyphs j d)) e (here d)
]

pub loop-g-preserved : goal.loop-g-preserved
loop-g-preserved c = one_more c.args.glyphs.now c.loop-g.g-index c.loop-g.invariant (λ d. subst IsGlyphUse (get_or_default c.args.glyphs.now c.loop-g.g-index _ d c.loop-g-test.true) (c.is_near.ensures.0 c.if-not-is_near.false))

pub returns : goal.returns
returns c = (λ _ k d h. c.loop-g.invariant k d (let l = c.loop-g-test.false in omega arith), λ _. refl)
