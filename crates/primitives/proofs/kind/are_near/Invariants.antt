use Rattle.std.proofs.Common.{◌<◌, ℕ, get_or}
use Rattle.primitives.specs.declared.kind.GlyphUse.{GlyphUse}
use Rattle.primitives.specs.PrimitiveModel.{IsGlyphUse}
use Rattle.primitives.proofs.kind.are_near.Given as goal

abbrev pub invariant-loop-g : goal.invariant-loop-g
invariant-loop-g l = (k : ℕ) (d : GlyphUse) → k < l.g-index → IsGlyphUse (get_or l.glyphs k d)
