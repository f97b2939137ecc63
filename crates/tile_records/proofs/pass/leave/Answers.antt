use Rattle.std.proofs.Common.{◌∙◌, refl, get_or}
use Rattle.tile_records.specs.Passing.{keys_of_records}
use Rattle.tile_records.proofs.Leavings.{leave_each, leave_known, leave_all}
use Rattle.tile_records.proofs.pass.leave.Goals as goal

pub loop-tile-preserved : goal.loop-tile-preserved
loop-tile-preserved c =
    let i = c.loop-tile.invariant in
    let e = c.in_ok-leave_one.ensures in
    record {
      each = λ k. leave_each c.args.depth c.args.key (get_or c.args.group.now c.loop-tile.tile-index 0) (keys_of_records c.loop-tile.records.items) (keys_of_records c.leave_one.new.records.items) c.loop-tile.entered.items c.leave_one.new.entered.items c.requires.depth e k ∙ i.each k;
      known = leave_known c.args.depth c.args.key (get_or c.args.group.now c.loop-tile.tile-index 0) (keys_of_records c.loop-tile.records.items) (keys_of_records c.leave_one.new.records.items) c.loop-tile.entered.items c.leave_one.new.entered.items c.args.group.now c.loop-tile.tile-index c.requires.depth c.loop-tile-test.true refl e i.known;
      sides = e.sides ∙ i.sides;
      lists_sides = e.lists_sides ∙ i.lists_sides;
    }

pub returns : goal.returns
returns c =
    let i = c.loop-tile.invariant in
    record {
      each = leave_all c.args.depth c.args.key (keys_of_records c.args.records.now.items) (keys_of_records c.loop-tile.records.items) c.args.entered.now.items c.loop-tile.entered.items c.args.group.now c.loop-tile.tile-index c.loop-tile-test.false i.known i.each;
      sides = i.sides;
      lists_sides = i.lists_sides;
    }
