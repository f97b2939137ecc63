use Rattle.std.proofs.Common.{◌≡◌, drop}
use Rattle.tile_records.specs.Interning.{ids_keys}
use Rattle.tile_records.specs.Counts.{removed_all}
use Rattle.tile_records.proofs.making.forget_all.Given as goal

-- what is left, from here, gives what all gives from the start
abbrev pub invariant-loop-id : goal.invariant-loop-id
invariant-loop-id l = removed_all l.interner (ids_keys (drop l.id-index l.ids)) ≡ removed_all l.fn.interner (ids_keys l.fn.ids)
