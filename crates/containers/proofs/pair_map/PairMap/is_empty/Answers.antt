use Rattle.std.proofs.Common.{◌∙◌, sym}
use Rattle.containers.specs.PairOrder.{pair_cmp}
use Rattle.containers.proofs.PairOrderLaws.{pair_cmp_total}
use Rattle.containers.proofs.MapViews.{empty_where_none, none_where_empty}
use Rattle.containers.proofs.pair_map.PairMap.is_empty.Goals as goal

pub returns : goal.returns
returns g c = (
  λ t. sym c.self.view_is ∙ empty_where_none pair_cmp c.self.inside.tree.entries (c.is_empty.ensures.0 t),
  λ e. c.is_empty.ensures.1 (none_where_empty pair_cmp pair_cmp_total c.self.inside.tree.entries (c.self.view_is ∙ e)),
)
