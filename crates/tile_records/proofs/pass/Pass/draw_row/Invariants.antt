use Rattle.tile_records.specs.Passing.{HasDrawn}
use Rattle.tile_records.specs.Passing.{state}
use Rattle.tile_records.proofs.pass.Pass.draw_row.Given as goal

abbrev pub invariant-loop-tile : goal.invariant-loop-tile
invariant-loop-tile l = HasDrawn l.start l.tile l.key (state l.fn.self) (state l.self)
