use Rattle.std.proofs.Common.{◌≡◌, ◌≤◌, All, drop}
use Rattle.std.specs.List.{fold}
use Rattle.display_list.specs.Levels.{with_total, totals_of}
use Rattle.list_summary.proofs.chains.chain_counts.Given as goal

-- what is left, from here, gives what all gives, and no count is large
abbrev pub invariant-loop-chain : goal.invariant-loop-chain
invariant-loop-chain l =
    (fold with_total l.counts.items (drop l.chain-index l.chain-items) ≡ totals_of l.list.chains)
    × All (λ total. total ≤ 255) (fold with_total l.counts.items (drop l.chain-index l.chain-items))
