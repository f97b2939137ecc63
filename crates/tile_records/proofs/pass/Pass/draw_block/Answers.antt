use Rattle.tile_records.specs.Passing.{state}
use Rattle.tile_records.proofs.Blocks.{block_more}
use Rattle.tile_records.proofs.pass.Pass.draw_block.Goals as goal

pub loop-row-preserved : goal.loop-row-preserved
loop-row-preserved c =
    block_more c.args.columns c.args.part.columns.from c.args.part.columns.to c.args.part.rows.from c.loop-row.row c.args.key (state c.args.self.now) (state c.loop-row.self) (state c.draw_row.new.self)
    c.requires.across c.requires.right c.loop-row.auto.row c.loop-row.invariant c.in_ok-draw_row.ensures
