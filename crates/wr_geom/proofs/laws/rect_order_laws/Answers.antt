use Rattle.std.proofs.Common.{◌≡◌, subst}
use Rattle.std.specs.declared.cmp.Ordering.TheVariants.{Equal}
use Rattle.wr_geom.specs.Bounds.{Bounds, same_rect}
use Rattle.wr_geom.proofs.Sames.{same_rect-true, same_rect-of, rect_cmp, rect_tie, rect_self}
use Rattle.wr_geom.proofs.laws.rect_order_laws.Goals as goal

pub returns-clause-equality : goal.returns-clause-equality
unfolding same_rect
returns-clause-equality c a b = (λ h. same_rect-true a b h, λ e. same_rect-of a b e)

pub returns-clause-order : goal.returns-clause-order
returns-clause-order c a b = (λ h. rect_tie a b h, λ e. subst (λ (r : Bounds). rect_cmp a r ≡ Equal) e (rect_self a))
