use Rattle.std.proofs.Common.{◌≡◌, drop}
use Rattle.list_summary.specs.Iframes.{with_iframes}
use Rattle.scene_limits.specs.Expanded.{totals_in}
use Rattle.scene_limits.proofs.totals.add_iframes.Given as goal

-- what is left, from here, gives what all gives
abbrev pub invariant-loop-iframe : goal.invariant-loop-iframe
invariant-loop-iframe l = with_iframes (totals_in l.table) (drop l.iframe-index l.iframes) l.sum ≡ with_iframes (totals_in l.table) l.iframes l.fn.own
