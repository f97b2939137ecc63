use Rattle.std.proofs.Common.{drop}
use Rattle.tile_records.specs.Interning.{ids_keys}
use Rattle.tile_records.specs.Passing.{HasPassed, state}
use Rattle.tile_records.proofs.pass.picked_by_tile.Given as goal

abbrev pub invariant-loop-number : goal.invariant-loop-number
invariant-loop-number l = HasPassed l.tiles (drop l.number l.entries) l.entries (ids_keys (drop l.number l.ids)) (ids_keys l.ids) (state l.pass)
