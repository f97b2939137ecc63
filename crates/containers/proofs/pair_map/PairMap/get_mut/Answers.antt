use Rattle.std.proofs.Common.{◌∙◌, refl, sym, ap}
use Rattle.containers.specs.PairOrder.{pair_cmp}
use Rattle.containers.proofs.PairOrderLaws.{pair_cmp_total, pair_cmp-IsAntisymmetric}
use Rattle.std.specs.FinMap as map
use Rattle.containers.proofs.MapViews.{get_is, inserted, where_some}
use Rattle.containers.proofs.pair_map.PairMap.get_mut.Goals as goal

pub returns : goal.returns
returns g c = (
  (
    refl,
    λ w. where_some c.get_mut.result _ _ c.get_mut.ensures.value (λ some.
        inserted pair_cmp pair_cmp_total pair_cmp-IsAntisymmetric c.self.inside.tree.entries (c.get_mut.follows.lender w).entries c.args.key w (((c.get_mut.follows.holds w).3 some).0)
        ∙ ap (λ m. map.insert m c.args.key w) c.self.view_is),
    ap (λ m. map.from_entries {R = pair_cmp} m.entries) c.get_mut.follows.holds-at-none ∙ c.self.view_is,
  ),
  record {
    writes_back = tt;
    value = c.get_mut.ensures.value ∙ sym (get_is pair_cmp pair_cmp_total c.self.inside.tree.entries c.args.key) ∙ ap (λ m. map.get m c.args.key) c.self.view_is;
  },
)
