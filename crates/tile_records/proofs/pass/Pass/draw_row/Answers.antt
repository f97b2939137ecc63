use Rattle.tile_records.specs.Passing.{state}
use Rattle.tile_records.proofs.Enters.{draw_none, draw_more}
use Rattle.tile_records.proofs.pass.Pass.draw_row.Goals as goal

pub loop-tile-init : goal.loop-tile-init
loop-tile-init c = draw_none c.args.start c.args.key (state c.args.self.now) c.requires.sound

pub loop-tile-preserved : goal.loop-tile-preserved
loop-tile-preserved c = draw_more c.args.start c.loop-tile.tile c.args.key (state c.args.self.now) (state c.loop-tile.self) (state c.enter.new.self) c.loop-tile.auto.tile c.loop-tile.invariant c.in_ok-enter.ensures
