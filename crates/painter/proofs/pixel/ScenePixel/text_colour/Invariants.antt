use Rattle.std.proofs.Common.{◌≡◌, map, take}
use Rattle.std.specs.List.{fold}
use Rattle.blend_rules.specs.Colour.{IsPixel, clear}
use Rattle.primitives.specs.Colours.{glyph_use_over}
use Rattle.painter.specs.Painter.{glyph_use}
use Rattle.painter.proofs.pixel.ScenePixel.text_colour.Given as goal

-- the glyphs so far
abbrev pub invariant-loop-g : goal.invariant-loop-g
invariant-loop-g l =
    (l.so_far ≡ fold (glyph_use_over l.self.store l.pipeline l.font l.colour l.self.x l.self.y) clear (map (glyph_use l.self.store l.pipeline l.font l.at) (take l.g-index l.glyphs)))
    × IsPixel l.so_far
