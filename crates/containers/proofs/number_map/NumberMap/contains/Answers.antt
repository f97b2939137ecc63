use Rattle.std.proofs.Common.{◌∙◌, sym, ap, is_some}
use Rattle.std.specs.Ordering.{nat_cmp}
use Rattle.std.specs.Cmp.{nat_cmp_total}
use Rattle.std.specs.FinMap as map
use Rattle.containers.proofs.MapViews.{get_is}
use Rattle.containers.proofs.number_map.NumberMap.contains.Goals as goal

pub returns : goal.returns
returns g c =
    c.contains_key.ensures ∙ sym (ap is_some (get_is nat_cmp nat_cmp_total c.self.inside.tree.entries c.args.key))
    ∙ ap (λ m. map.contains_key m c.args.key) c.self.view_is
