use Rattle.std.proofs.Common.{◌≡◌, ◌<◌, ℕ, get_or, pos, ◌+ℤ◌}
use Rattle.blend_rules.specs.Planes.{channel}
use Rattle.primitives.specs.Borders.{border_colour}
use Rattle.primitives.proofs.row.border_row.Given as goal

abbrev pub invariant-loop-k : goal.invariant-loop-k
invariant-loop-k l = (i : ℕ) → i < l.k → get_or l.out i 0 ≡ channel l.p (border_colour l.rect l.w l.colours l.radii (l.fn.x0 +ℤ pos i) l.fn.y)
