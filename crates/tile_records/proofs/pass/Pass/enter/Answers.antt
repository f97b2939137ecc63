use Rattle.std.proofs.Common.{◌≡◌, get_or, length, arith}
use Rattle.std.proofs.lemmas.Grind.{common_steps}
use Rattle.tile_records.specs.Passing.{state}
use Rattle.tile_records.specs.Passing.{views, keys_of_records}
use Rattle.tile_records.proofs.Enters.{enter_by}
use Rattle.tile_records.proofs.pass.Pass.enter.Goals as goal

pub returns : goal.returns
returns c =
    let from_is : c.index-from.result.now ≡ get_or c.args.self.now.entered.items c.args.tile 0 = grind (arith, common_steps) in
    let len_is : c.len.result ≡ length c.args.self.now.groups.items = grind (arith, common_steps) in
    enter_by (state c.args.self.now) c.args.tile c.args.key c.index-from.result.now c.len.result c.deref.result.now (keys_of_records c.fill.new.records.items) (keys_of_records c.append_id.new.records.items) (views c.fill.new.reached.items) c.requires.sound c.requires.tile
    c.deref.ensures.value from_is len_is c.in_ok-fill.ensures c.in_ok-append_id.ensures
