use Rattle.std.proofs.Common.{◌∙◌, sym, ap, is_some}
use Rattle.containers.specs.PairOrder.{pair_cmp}
use Rattle.containers.proofs.PairOrderLaws.{pair_cmp_total}
use Rattle.std.specs.FinMap as map
use Rattle.containers.proofs.MapViews.{get_is}
use Rattle.containers.proofs.pair_map.PairMap.contains.Goals as goal

pub returns : goal.returns
returns g c =
    c.contains_key.ensures ∙ sym (ap is_some (get_is pair_cmp pair_cmp_total c.self.inside.tree.entries c.args.key))
    ∙ ap (λ m. map.contains_key m c.args.key) c.self.view_is
