use Rattle.std.proofs.Common.{ℕ, List, slice_index, ap, sym, subst, ◌∙◌, arith}
use Rattle.blend_rules.specs.Colour.{scaled}
use Rattle.blend_rules.specs.declared.colour.Px.{Px}
use Rattle.blend_rules.proofs.Blends.{scaled_by_full}
use Rattle.tile_raster.specs.Rows.{LineModel, pixel, IsPainted}
use Rattle.tile_raster.specs.Spans.{coverage_at}
use Rattle.tile_raster.proofs.Painting.{painted_as, painted_twice, painted_same}
use Rattle.tile_raster.proofs.lay.fade_group.Goals as goal
use Rattle.tile_raster.proofs.lay.fade_group.Goals.{then-opacity-ne255, else-opacity-ne255}

pub returns-then-not-is_whole-clause-group : goal.returns-then-not-is_whole-clause-group
returns-then-not-is_whole-clause-group c =
    let s = c.args.strip.span in
    let o = c.args.opacity in
    let faded : IsPainted (λ (k : ℕ) (d : Px). scaled d o) s c.args.group.now c.if-opacity-ne255.group =
    elim c.if-opacity-ne255.branch [
      | then-opacity-ne255 w ↦ subst (λ (l : LineModel). IsPainted (λ (k : ℕ) (d : Px). scaled d o) s c.args.group.now l) (sym w.group-is) w.scale.ensures
      | else-opacity-ne255 w ↦ subst (λ (l : LineModel). IsPainted (λ (k : ℕ) (d : Px). scaled d o) s c.args.group.now l) (sym w.group-is)
          (painted_same (λ (k : ℕ) (d : Px). scaled d o) s c.args.group.now (λ k d. ap (scaled d) (omega (arith, w.if-opacity-ne255.false)) ∙ scaled_by_full d))
    ] in
    painted_as (λ (k : ℕ) (d : Px). scaled (scaled d o) (slice_index c.deref.result.now k)) (λ (k : ℕ) (d : Px). scaled (scaled d o) (coverage_at c.args.clips.now c.args.strip.first k)) s _ _
    (λ k h. ap (scaled (scaled (pixel c.args.group.now k) o)) (ap (λ (l : List ℕ). slice_index l k) c.deref.ensures.value ∙ c.cover_plane.ensures.inside k h))
    (painted_twice (λ (k : ℕ) (d : Px). scaled d o) (λ (k : ℕ) (d : Px). scaled d (slice_index c.deref.result.now k)) s _ _ _ faded c.mask.ensures)

pub returns-else-not-is_whole-clause-group : goal.returns-else-not-is_whole-clause-group
returns-else-not-is_whole-clause-group c =
    let s = c.args.strip.span in
    let o = c.args.opacity in
    let faded : IsPainted (λ (k : ℕ) (d : Px). scaled d o) s c.args.group.now c.if-opacity-ne255.group =
    elim c.if-opacity-ne255.branch [
      | then-opacity-ne255 w ↦ subst (λ (l : LineModel). IsPainted (λ (k : ℕ) (d : Px). scaled d o) s c.args.group.now l) (sym w.group-is) w.scale.ensures
      | else-opacity-ne255 w ↦ subst (λ (l : LineModel). IsPainted (λ (k : ℕ) (d : Px). scaled d o) s c.args.group.now l) (sym w.group-is)
          (painted_same (λ (k : ℕ) (d : Px). scaled d o) s c.args.group.now (λ k d. ap (scaled d) (omega (arith, w.if-opacity-ne255.false)) ∙ scaled_by_full d))
    ] in
    painted_as (λ (k : ℕ) (d : Px). scaled d o) (λ (k : ℕ) (d : Px). scaled (scaled d o) (coverage_at c.args.clips.now c.args.strip.first k)) s _ _
    (λ k h. sym (scaled_by_full (scaled (pixel c.args.group.now k) o)) ∙ ap (scaled (scaled (pixel c.args.group.now k) o)) (sym (c.requires.whole c.if-not-is_whole.false k h))) faded
