use Rattle.std.proofs.Common.{◌≡◌, take}
use Rattle.std.specs.List.{fold}
use Rattle.blend_rules.specs.Colour.{IsPremultiplied, clear}
use Rattle.primitives.specs.Colours.{glyph_use_over}
use Rattle.primitives.proofs.text.text_colour.Given as goal

abbrev pub invariant-loop-g : goal.invariant-loop-g
invariant-loop-g l =
    (l.so_far ≡ fold (glyph_use_over l.fn.store l.fn.pipeline l.fn.font l.fn.colour l.fn.x l.fn.y) clear (take l.g-index l.glyphs)) × IsPremultiplied l.so_far
