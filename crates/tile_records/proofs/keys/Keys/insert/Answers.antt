use Rattle.std.proofs.Common.{◌∙◌, ap}
use Rattle.std.specs.FinMap as map
use Rattle.containers.proofs.MapViews.{inserted}
use Rattle.tile_records.specs.Keys.{KeyMap, entry_cmp}
use Rattle.tile_records.proofs.Orders.{entry_total}
use Rattle.tile_records.proofs.keys.Keys.insert.Goals as goal

pub returns-clause-ok : goal.returns-clause-ok
returns-clause-ok c =
    inserted entry_cmp entry_total (λ a b h. (c.entry_order_laws.ensures.order a b).0 h) c.self.inside.tree.entries c.insert.new.self.entries c.args.entry c.args.key c.in_ok-insert.ensures.updates.0
    ∙ ap (λ (m : KeyMap). map.insert m c.args.entry c.args.key) c.self.view_is
