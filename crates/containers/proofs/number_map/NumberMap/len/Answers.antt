use Rattle.std.proofs.Common.{◌∙◌, sym, ap}
use Rattle.std.specs.Ordering.{nat_cmp}
use Rattle.std.specs.Cmp.{nat_cmp_total}
use Rattle.std.specs.FinMap as map
use Rattle.containers.proofs.MapViews.{number_is}
use Rattle.containers.proofs.number_map.NumberMap.len.Goals as goal

pub returns : goal.returns
returns g c =
    c.len.ensures.len
    ∙ sym (number_is nat_cmp nat_cmp_total map.nat_cmp-IsAntisymmetric c.self.inside.tree.entries c.len.ensures.ordered)
    ∙ ap map.len c.self.view_is
