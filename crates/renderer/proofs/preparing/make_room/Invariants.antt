use Rattle.std.proofs.Common.{◌≡◌}
use Rattle.renderer.proofs.preparing.make_room.Given as goal

abbrev pub invariant-loop-slice : goal.invariant-loop-slice
invariant-loop-slice l = l.scratch.width ≡ l.fn.scratch.width
