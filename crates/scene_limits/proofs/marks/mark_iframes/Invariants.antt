use Rattle.std.proofs.Common.{◌≡◌, ℕ, ◌||◌, drop}
use Rattle.scene_limits.specs.Drawn.{is_marked, have_iframe_of}
use Rattle.scene_limits.proofs.marks.mark_iframes.Given as goal

-- what is left, from here, marks what all marks
abbrev pub invariant-loop-iframe : goal.invariant-loop-iframe
invariant-loop-iframe l = (q : ℕ) → (is_marked l.marks q || have_iframe_of q (drop l.iframe-index l.iframes)) ≡ (is_marked l.fn.marks q || have_iframe_of q l.iframes)
