use Rattle.std.proofs.Common.{◌≡◌, true, sym, ap, subst, ◌∙◌}
use Rattle.std.specs.Cmp.{Equal-is}
use Rattle.std.specs.Ordering.{is_eq}
use Rattle.primitives.proofs.laws.exact_laws.Goals as goal

pub returns : goal.returns
returns g c = record {
  equality = λ exact x y. (exact x y, λ e. subst (λ z. g.T.PartialEq.eq x z ≡ true) e (g.met.T.Eq.laws.refl x));
  order = λ exact x y. (
    λ h. exact x y (g.met.T.Ord.matches_eq x y ∙ ap is_eq h),
    λ e. (Equal-is (g.T.Ord.cmp x y)).0 (sym (g.met.T.Ord.matches_eq x y) ∙ subst (λ z. g.T.PartialEq.eq x z ≡ true) e (g.met.T.Eq.laws.refl x)),
  );
}
