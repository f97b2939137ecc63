use Rattle.std.proofs.Common.{◌∙◌, sym, ap}
use Rattle.std.specs.FinMap as map
use Rattle.containers.proofs.MapViews.{get_is}
use Rattle.tile_records.specs.Keys.{KeyMap, entry_cmp}
use Rattle.tile_records.proofs.Orders.{entry_total}
use Rattle.tile_records.proofs.keys.Keys.get.Goals as goal

pub returns-in-Some : goal.returns-in-Some
returns-in-Some c =
    c.in-Some.ensures.value ∙ sym (get_is entry_cmp entry_total c.self.inside.tree.entries c.args.entry.now)
    ∙ ap (λ (m : KeyMap). map.get m c.args.entry.now) c.self.view_is

pub returns-in-None : goal.returns-in-None
returns-in-None c =
    c.in-None.ensures.value ∙ sym (get_is entry_cmp entry_total c.self.inside.tree.entries c.args.entry.now)
    ∙ ap (λ (m : KeyMap). map.get m c.args.entry.now) c.self.view_is
