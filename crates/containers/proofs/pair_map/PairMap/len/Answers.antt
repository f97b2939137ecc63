use Rattle.std.proofs.Common.{◌∙◌, sym, ap}
use Rattle.containers.specs.PairOrder.{pair_cmp}
use Rattle.containers.proofs.PairOrderLaws.{pair_cmp_total, pair_cmp-IsAntisymmetric}
use Rattle.std.specs.FinMap as map
use Rattle.containers.proofs.MapViews.{number_is}
use Rattle.containers.proofs.pair_map.PairMap.len.Goals as goal

pub returns : goal.returns
returns g c =
    c.len.ensures.len
    ∙ sym (number_is pair_cmp pair_cmp_total pair_cmp-IsAntisymmetric c.self.inside.tree.entries c.len.ensures.ordered)
    ∙ ap map.len c.self.view_is
