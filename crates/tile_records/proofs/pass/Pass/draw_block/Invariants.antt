use Rattle.tile_records.specs.Passing.{HasDrawnBlock}
use Rattle.tile_records.specs.Passing.{state}
use Rattle.tile_records.proofs.pass.Pass.draw_block.Given as goal

abbrev pub invariant-loop-row : goal.invariant-loop-row
invariant-loop-row l = HasDrawnBlock l.columns l.left l.right l.fn.part.rows.from l.row l.key (state l.fn.self) (state l.self)
