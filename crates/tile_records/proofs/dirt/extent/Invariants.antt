use Rattle.std.proofs.Common.{◌≡◌, drop}
use Rattle.tile_records.specs.Dirt.{extent_from}
use Rattle.tile_records.specs.Interning.{entries_under, ids_keys}
use Rattle.tile_records.proofs.dirt.extent.Given as goal

-- what is left, from here, gives what all gives from the first
abbrev pub invariant-loop-id : goal.invariant-loop-id
invariant-loop-id l = extent_from l.all (entries_under l.interner (ids_keys (drop l.id-index l.ids))) ≡ extent_from l.fn.first (entries_under l.interner (ids_keys l.ids))
