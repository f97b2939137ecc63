use Rattle.std.proofs.Common.{◌≡◌, ℕ, List, slice_index, ap, ◌∙◌}
use Rattle.blend_rules.specs.Colour.{blended}
use Rattle.blend_rules.specs.declared.colour.Px.{Px}
use Rattle.blend_rules.specs.declared.mode.Mode.TheVariants.{Normal}
use Rattle.clip_masks.specs.declared.clip.Clip.{Clip}
use Rattle.clip_masks.proofs.Chains.{within_cut}
use Rattle.primitives.specs.Colours.{primitive_colour, covered_colour}
use Rattle.tile_raster.specs.Levels.{over_primitive}
use Rattle.tile_raster.specs.Rows.{LineModel, pixel, IsIn}
use Rattle.tile_raster.specs.Spans.{x_of, coverage_at}
use Rattle.tile_raster.proofs.Painting.{painted_as}
use Rattle.tile_raster.proofs.Covered.{covered_under, covered_whole, over_as}
use Rattle.tile_raster.proofs.lay.lay_colours.Goals as goal
use Rattle.tile_raster.proofs.lay.lay_colours.Goals.{then-not-noted, else-not-noted}

pub returns-clause-row : goal.returns-clause-row
returns-clause-row c =
    let store = c.args.noted.store.now in
    let p = c.args.noted.primitive.now in
    let first = c.args.strip.first in
    let tint = c.if-not-noted.tint in
    let own : (k : ℕ) → IsIn c.args.strip.span k → pixel c.paint.new.self k ≡ primitive_colour store p (x_of first k) first.y = c.paint.ensures.inside in
    let covered : (k : ℕ) → IsIn c.args.strip.span k → pixel tint k ≡ covered_colour store p (x_of first k) first.y = λ k h.
    elim c.if-not-noted.branch [
      | then-not-noted w ↦ ap (λ (l : LineModel). pixel l k) w.tint-is ∙ w.mask.ensures.inside k h
          ∙ covered_under store p (x_of first k) first.y (pixel c.paint.new.self k) _ (own k h) (ap (λ (l : List ℕ). slice_index l k) w.deref.ensures.value ∙ w.cover_plane.ensures.inside k h ∙ ap (λ (cs : List Clip). coverage_at cs first k) w.clips.ensures.value)
      | else-not-noted w ↦ ap (λ (l : LineModel). pixel l k) w.tint-is
          ∙ covered_whole store p (x_of first k) first.y (pixel c.paint.new.self k) (own k h) (within_cut p.rect p.clips 255 (x_of first k) first.y (c.requires.noted.whole w.if-not-noted.false) (c.requires.shown k h))
    ] in
    painted_as (λ (k : ℕ) (d : Px). blended Normal (pixel tint k) d) (λ (k : ℕ) (d : Px). over_primitive store p (x_of first k) first.y d) c.args.strip.span _ _
    (λ k h. over_as store p (x_of first k) first.y (pixel tint k) _ (covered k h)) c.blend.ensures
