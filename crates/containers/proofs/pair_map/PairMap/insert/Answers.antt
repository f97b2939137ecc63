use Rattle.std.proofs.Common.{◌∙◌, ap}
use Rattle.containers.specs.PairOrder.{pair_cmp}
use Rattle.containers.proofs.PairOrderLaws.{pair_cmp_total, pair_cmp-IsAntisymmetric}
use Rattle.std.specs.FinMap as map
use Rattle.containers.proofs.MapViews.{inserted}
use Rattle.containers.proofs.pair_map.PairMap.insert.Goals as goal

pub returns-clause-ok : goal.returns-clause-ok
returns-clause-ok g c =
    inserted pair_cmp pair_cmp_total pair_cmp-IsAntisymmetric c.self.inside.tree.entries c.insert.new.self.entries c.args.key c.args.value c.in_ok-insert.ensures.updates.0
    ∙ ap (λ m. map.insert m c.args.key c.args.value) c.self.view_is
