use Rattle.tile_records.proofs.Reaches.{set_records}
use Rattle.tile_records.proofs.pass.append_id.Goals as goal

pub returns : goal.returns
returns c = set_records c.args.records.now.items c.args.at (record { ids = c.push.new.self }) c.index_mut.result.now (record { key = c.args.key }) c.requires c.index_mut.ensures.value c.in_ok-push.ensures.items
