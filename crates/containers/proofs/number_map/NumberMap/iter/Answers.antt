use Rattle.std.proofs.Common.{◌∙◌, sym, ap}
use Rattle.std.specs.Ordering.{nat_cmp}
use Rattle.std.specs.Cmp.{nat_cmp_total}
use Rattle.std.specs.FinMap as map
use Rattle.containers.proofs.MapViews.{entries_are}
use Rattle.containers.proofs.number_map.NumberMap.iter.Goals as goal

pub returns-clause-entries : goal.returns-clause-entries
returns-clause-entries g c =
    c.iter.ensures.rest
    ∙ sym (entries_are nat_cmp nat_cmp_total map.nat_cmp-IsAntisymmetric c.self.inside.tree.entries c.iter.ensures.ordered)
    ∙ ap map.entries c.self.view_is
