use Rattle.std.proofs.Common.{◌≡◌, ◌+◌, length}
use Rattle.field_forms.specs.Facts.{IsDefined}
use Rattle.spatial_tree.specs.Lineage.{clip_numbers}
use Rattle.spatial_tree.proofs.Chains.{height}
use Rattle.spatial_tree.proofs.lineage.clip_count.Given as goal

abbrev pub invariant-up : goal.invariant-up
invariant-up l = IsDefined (length l.chains) l.next × (length (clip_numbers l.chains l.next) + l.count ≡ length (clip_numbers l.chains l.fn.chain))

abbrev pub decreases-up : goal.decreases-up
decreases-up l = height l.next
