use Rattle.std.proofs.Common.{◌≡◌, ◌++◌, take, drop}
use Rattle.primitives.specs.Moves.{shifted_glyphs}
use Rattle.primitives.proofs.lists.shift_glyphs.Given as goal

abbrev pub invariant-loop-g : goal.invariant-loop-g
invariant-loop-g l = l.glyphs ≡ shifted_glyphs (take l.g-index l.fn.glyphs) l.by ++ drop l.g-index l.fn.glyphs
