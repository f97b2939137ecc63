use Rattle.std.proofs.Common.{◌∙◌, ap}
use Rattle.std.specs.FinMap as map
use Rattle.containers.proofs.MapViews.{removed}
use Rattle.tile_records.specs.Keys.{KeyMap, entry_cmp}
use Rattle.tile_records.proofs.Orders.{entry_total}
use Rattle.tile_records.proofs.keys.Keys.remove.Goals as goal

pub returns : goal.returns
returns c =
    removed entry_cmp entry_total (λ a b h. (c.entry_order_laws.ensures.order a b).0 h) c.self.inside.tree.entries c.remove.new.self.entries c.args.entry.now c.remove.ensures.updates.0
    ∙ ap (λ (m : KeyMap). map.remove m c.args.entry.now) c.self.view_is
