use Rattle.std.proofs.Common.{◌∙◌, sym, ap}
use Rattle.containers.specs.PairOrder.{pair_cmp}
use Rattle.containers.proofs.PairOrderLaws.{pair_cmp_total, pair_cmp-IsAntisymmetric}
use Rattle.std.specs.FinMap as map
use Rattle.containers.proofs.MapViews.{entries_are}
use Rattle.containers.proofs.pair_map.PairMap.iter.Goals as goal

pub returns-clause-entries : goal.returns-clause-entries
returns-clause-entries g c =
    c.iter.ensures.rest
    ∙ sym (entries_are pair_cmp pair_cmp_total pair_cmp-IsAntisymmetric c.self.inside.tree.entries c.iter.ensures.ordered)
    ∙ ap map.entries c.self.view_is
