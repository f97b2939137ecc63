use Rattle.std.proofs.Common.{◌≡◌, take}
use Rattle.std.specs.List.{count_by}
use Rattle.slice_rules.specs.Homes.{same_home}
use Rattle.picture_slices.specs.declared.slice.Slice.{Slice}
use Rattle.picture_slices.proofs.slice.next_key.Given as goal

abbrev pub invariant-loop-slice : goal.invariant-loop-slice
invariant-loop-slice l = l.nth ≡ count_by (λ (s : Slice). same_home s.key.scroll l.home) (take l.slice-index l.slices)
