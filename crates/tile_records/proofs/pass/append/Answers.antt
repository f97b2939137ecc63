use Rattle.tile_records.proofs.Reaches.{set_views}
use Rattle.tile_records.proofs.pass.append.Goals as goal

pub returns : goal.returns
returns c = set_views c.args.lists.now.items c.args.at c.push.new.self c.index_mut.result.now c.args.number c.requires c.index_mut.ensures.value c.in_ok-push.ensures.items
