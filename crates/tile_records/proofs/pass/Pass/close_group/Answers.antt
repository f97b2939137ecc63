use Rattle.std.proofs.Common.{◌≡◌, length, arith, sym}
use Rattle.std.proofs.lemmas.Grind.{common_steps}
use Rattle.tile_records.specs.Passing.{state}
use Rattle.tile_records.specs.Passing.{views, keys_of_records}
use Rattle.tile_records.proofs.GroupSteps.{popped, views_push, inner_known, close_law}
use Rattle.tile_records.proofs.pass.Pass.close_group.Goals as goal

pub leave-requires-clause-known : goal.leave-requires-clause-known
leave-requires-clause-known c =
    let len_is : c.len-depth.result ≡ length c.args.self.now.groups.items = grind (arith, common_steps) in
    inner_known (state c.args.self.now) c.len-depth.result (views c.pop-2.new.self.items) c.deref.result.now c.requires.sound len_is c.requires.opened
    (views_push c.pop-2.new.self.items c.args.self.now.reached.items c.unwrap-group.result c.deref.result.now (popped c.args.self.now.reached.items c.pop-2.new.self.items c.pop-2.result c.unwrap-group.result c.pop-2.ensures.items c.unwrap-group.ensures) (sym c.deref.ensures.value))

pub returns : goal.returns
returns c =
    let len_is : c.len-depth.result ≡ length c.args.self.now.groups.items = grind (arith, common_steps) in
    close_law (state c.args.self.now) c.args.key c.len-depth.result c.unwrap-place.result c.pop.new.self.items c.deref.result.now (views c.pop-2.new.self.items) (keys_of_records c.leave.new.records.items) c.leave.new.entered.items c.requires.sound len_is c.requires.opened
    (popped c.args.self.now.groups.items c.pop.new.self.items c.pop.result c.unwrap-place.result c.pop.ensures.items c.unwrap-place.ensures)
    (views_push c.pop-2.new.self.items c.args.self.now.reached.items c.unwrap-group.result c.deref.result.now (popped c.args.self.now.reached.items c.pop-2.new.self.items c.pop-2.result c.unwrap-group.result c.pop-2.ensures.items c.unwrap-group.ensures) (sym c.deref.ensures.value))
    c.in_ok-leave.ensures
