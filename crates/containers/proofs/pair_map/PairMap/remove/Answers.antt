use Rattle.std.proofs.Common.{◌∙◌, sym, ap}
use Rattle.containers.specs.PairOrder.{pair_cmp}
use Rattle.containers.proofs.PairOrderLaws.{pair_cmp_total, pair_cmp-IsAntisymmetric}
use Rattle.std.specs.FinMap as map
use Rattle.containers.proofs.MapViews.{get_is, removed}
use Rattle.containers.proofs.pair_map.PairMap.remove.Goals as goal

pub returns-clause-taken : goal.returns-clause-taken
returns-clause-taken g c =
    c.remove.ensures.value ∙ sym (get_is pair_cmp pair_cmp_total c.self.inside.tree.entries c.args.key)
    ∙ ap (λ m. map.get m c.args.key) c.self.view_is

pub returns-clause-removed : goal.returns-clause-removed
returns-clause-removed g c =
    removed pair_cmp pair_cmp_total pair_cmp-IsAntisymmetric c.self.inside.tree.entries c.remove.new.self.entries c.args.key c.remove.ensures.updates.0
    ∙ ap (λ m. map.remove m c.args.key) c.self.view_is
