use Rattle.std.proofs.Common.{◌≡◌, map, take}
use Rattle.std.specs.Prelude.{All}
use Rattle.primitives.specs.PrimitiveModel.{IsGlyphUse}
use Rattle.painter.specs.Painter.{glyph_use}
use Rattle.scene_flatten.proofs.shown.glyph_uses.Given as goal

-- the glyphs so far
abbrev pub invariant-loop-g : goal.invariant-loop-g
invariant-loop-g l =
    (l.uses.items ≡ map (glyph_use l.store l.pipeline l.font l.at) (take l.g-index l.glyphs))
    × All IsGlyphUse l.uses.items
