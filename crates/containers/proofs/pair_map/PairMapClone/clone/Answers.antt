use Rattle.std.proofs.Common.{◌∙◌, ap}
use Rattle.std.proofs.lemmas.Map.Entries.{entries_from_clone}
use Rattle.containers.specs.PairOrder.{pair_cmp}
use Rattle.std.specs.FinMap as map
use Rattle.containers.proofs.pair_map.PairMapClone.clone.Goals as goal

pub returns : goal.returns
returns g c = record {
  cases =
      ap (λ es. map.from_entries {R = pair_cmp} es) (entries_from_clone _ g.V.Clone.is_clone (λ x y e i. (e.0 i, e.1 i)) g.met.V.Exact.exact c.self.inside.tree.entries c.in_ok-tree.tree.entries c.in_ok-tree.ensures.cases)
      ∙ c.self.view_is;
}
