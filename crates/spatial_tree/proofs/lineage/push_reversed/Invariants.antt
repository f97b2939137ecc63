use Rattle.std.proofs.Common.{◌≡◌, ◌++◌, map}
use Rattle.spatial_tree.proofs.lineage.push_reversed.Given as goal

abbrev pub invariant-loop-number : goal.invariant-loop-number
invariant-loop-number l = l.numbers.items ≡ l.initial.numbers.items ++ map (λ b. b.now) l.yielded
