use Rattle.std.proofs.Common.{◌≡◌, ◌<◌, ℕ, get_or, length, take, pos, ◌+ℤ◌}
use Rattle.std.specs.List.{fold}
use Rattle.blend_rules.specs.Colour.{clear}
use Rattle.blend_rules.specs.Planes.{channel}
use Rattle.primitives.specs.Colours.{glyph_use_over}
use Rattle.primitives.proofs.text_row.text_row.Given as goal

abbrev pub invariant-loop-g : goal.invariant-loop-g
invariant-loop-g l = (k : ℕ) → k < length l.fn.out → get_or l.out k 0 ≡ channel l.p (fold (glyph_use_over l.fn.store l.fn.pipeline l.fn.font l.fn.colour (l.fn.x0 +ℤ pos k) l.fn.y) clear (take l.g-index l.glyphs))
