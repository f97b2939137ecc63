use Rattle.tile_records.specs.Passing.{state}
use Rattle.tile_records.specs.Passing.{views}
use Rattle.std.proofs.Common.{[]}
use Rattle.tile_records.proofs.GroupSteps.{open_law, views_push}
use Rattle.tile_records.proofs.pass.Pass.open_group.Goals as goal

pub returns : goal.returns
returns c =
    open_law (state c.args.self.now) c.args.key c.push.new.self.items (views c.push-2.new.self.items) c.requires c.in_ok-push.ensures.items
    (views_push c.args.self.now.reached.items c.push-2.new.self.items c.new.result [] c.in_ok-push-2.ensures.items c.new.ensures.items)
