use Rattle.std.proofs.Common.{◌∙◌, sym}
use Rattle.std.specs.Ordering.{nat_cmp}
use Rattle.std.specs.Cmp.{nat_cmp_total}
use Rattle.containers.proofs.MapViews.{empty_where_none, none_where_empty}
use Rattle.containers.proofs.number_map.NumberMap.is_empty.Goals as goal

pub returns : goal.returns
returns g c = (
  λ t. sym c.self.view_is ∙ empty_where_none nat_cmp c.self.inside.tree.entries (c.is_empty.ensures.0 t),
  λ e. c.is_empty.ensures.1 (none_where_empty nat_cmp nat_cmp_total c.self.inside.tree.entries (c.self.view_is ∙ e)),
)
