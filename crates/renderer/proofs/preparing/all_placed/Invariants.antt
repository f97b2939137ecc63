use Rattle.std.proofs.Common.{◌≡◌, ◌++◌, drop}
use Rattle.shown_frames.specs.Placing.{all_placed}
use Rattle.renderer.proofs.preparing.all_placed.Given as goal

-- those so far and those that are left are all
abbrev pub invariant-loop-slice : goal.invariant-loop-slice
invariant-loop-slice l = (l.placed.items ++ all_placed (drop l.slice-index l.slices)) ≡ all_placed l.fn.slices
