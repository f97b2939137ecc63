use Rattle.std.proofs.Common.{◌≡◌, ◌++◌, length, reverse}
use Rattle.field_forms.specs.Facts.{IsDefined}
use Rattle.spatial_tree.specs.Lineage.{clip_numbers}
use Rattle.spatial_tree.proofs.Chains.{height}
use Rattle.spatial_tree.proofs.lineage.chain_clips.Given as goal

abbrev pub invariant-up : goal.invariant-up
invariant-up l = IsDefined (length l.chains) l.next × (clip_numbers l.chains l.next ++ reverse l.numbers.items ≡ clip_numbers l.chains l.fn.chain)

abbrev pub decreases-up : goal.decreases-up
decreases-up l = height l.next
