use Rattle.std.proofs.Common.{◌≡◌, Bool, ◌&&◌, sym, ap, subst, ◌∙◌}
use Rattle.std.specs.Ordering.{bool_cmp, ordering_then}
use Rattle.std.specs.declared.cmp.Ordering.TheVariants.{Equal}
use Rattle.wr_geom.specs.Bounds.{same_rect}
use Rattle.wr_geom.specs.Sides.{same_radii}
use Rattle.wr_geom.proofs.Sames.{both_tie, tie_both, rect_cmp, rect_tie, rect_self, radii_cmp, radii_tie, radii_self}
use Rattle.clip_masks.specs.Clips.{same_clip}
use Rattle.clip_masks.specs.declared.clip.Clip.{Clip}
use Rattle.clip_masks.proofs.Clips.{clip_of, same_clips, mode_test, mode_tie, mode_even}
use Rattle.clip_masks.proofs.laws.clip_order_laws.Goals as goal

pub returns-clause-equality : goal.returns-clause-equality
unfolding same_clip same_rect same_radii
returns-clause-equality c a b =
    let one = ap (λ (t : Bool). same_rect a.shape.rect b.shape.rect && same_radii a.shape.radii b.shape.radii && t) (mode_test a.out b.out) in
    (λ h. (same_clips a b).0 (sym one ∙ h), λ e. one ∙ (same_clips a b).1 e)

pub returns-clause-order : goal.returns-clause-order
returns-clause-order c a b = (
  λ h.
      let i = both_tie (ordering_then (rect_cmp a.shape.rect b.shape.rect) (radii_cmp a.shape.radii b.shape.radii)) (bool_cmp a.out b.out) h in
      let j = both_tie (rect_cmp a.shape.rect b.shape.rect) (radii_cmp a.shape.radii b.shape.radii) i.0 in
      clip_of a b (rect_tie a.shape.rect b.shape.rect j.0) (radii_tie a.shape.radii b.shape.radii j.1) (mode_tie a.out b.out i.1),
  λ e. subst (λ (k : Clip). ordering_then (ordering_then (rect_cmp a.shape.rect k.shape.rect) (radii_cmp a.shape.radii k.shape.radii)) (bool_cmp a.out k.out) ≡ Equal) e
      (tie_both _ _ (tie_both _ _ (rect_self a.shape.rect) (radii_self a.shape.radii)) (mode_even a.out)),
)
