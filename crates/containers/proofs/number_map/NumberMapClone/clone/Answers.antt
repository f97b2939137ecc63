use Rattle.std.proofs.Common.{◌∙◌, ap}
use Rattle.std.proofs.lemmas.Map.Entries.{entries_from_clone}
use Rattle.std.specs.Ordering.{nat_cmp}
use Rattle.std.specs.FinMap as map
use Rattle.containers.proofs.number_map.NumberMapClone.clone.Goals as goal

pub returns : goal.returns
returns g c = record {
  cases =
      ap (λ es. map.from_entries {R = nat_cmp} es) (entries_from_clone _ g.V.Clone.is_clone (λ x y e. e) g.met.V.Exact.exact c.self.inside.tree.entries c.in_ok-tree.tree.entries c.in_ok-tree.ensures.cases)
      ∙ c.self.view_is;
}
