use Rattle.std.proofs.Common.{◌≡◌, ℕ, List, slice_index, ap, ◌∙◌}
use Rattle.blend_rules.specs.Colour.{scaled, blended}
use Rattle.blend_rules.specs.declared.colour.Px.{Px}
use Rattle.blend_rules.specs.declared.mode.Mode.TheVariants.{Normal}
use Rattle.clip_masks.specs.declared.clip.Clip.{Clip}
use Rattle.clip_masks.proofs.Chains.{cut_inside, within_cut}
use Rattle.primitives.specs.Colours.{primitive_colour}
use Rattle.tile_raster.specs.Levels.{over_primitive}
use Rattle.tile_raster.specs.Rows.{IsIn}
use Rattle.tile_raster.specs.Spans.{x_of, coverage_at}
use Rattle.tile_raster.proofs.Painting.{painted_as}
use Rattle.tile_raster.proofs.Covered.{solid_colour, covered_under, covered_whole, over_as}
use Rattle.tile_raster.proofs.lay.lay_solid.Goals as goal

pub returns-then-noted-clause-row : goal.returns-then-noted-clause-row
returns-then-noted-clause-row c =
    let store = c.args.noted.store.now in
    let p = c.args.noted.primitive.now in
    let first = c.args.strip.first in
    let own : (k : ℕ) → IsIn c.args.strip.span k → c.args.colour ≡ primitive_colour store p (x_of first k) first.y = λ k h.
    solid_colour store p (x_of first k) first.y c.args.colour c.requires.kind (cut_inside p.rect p.clips (x_of first k) first.y (c.requires.shown k h)) in
    painted_as (λ (k : ℕ) (d : Px). blended Normal c.args.colour d) (λ (k : ℕ) (d : Px). over_primitive store p (x_of first k) first.y d) c.args.strip.span _ _
    (λ k h. over_as store p (x_of first k) first.y c.args.colour _ (covered_whole store p (x_of first k) first.y c.args.colour (own k h) (within_cut p.rect p.clips 255 (x_of first k) first.y (c.requires.noted.whole c.if-noted.true) (c.requires.shown k h))))
    c.over_solid.ensures

pub returns-else-noted-clause-row : goal.returns-else-noted-clause-row
returns-else-noted-clause-row c =
    let store = c.args.noted.store.now in
    let p = c.args.noted.primitive.now in
    let first = c.args.strip.first in
    let own : (k : ℕ) → IsIn c.args.strip.span k → c.args.colour ≡ primitive_colour store p (x_of first k) first.y = λ k h.
    solid_colour store p (x_of first k) first.y c.args.colour c.requires.kind (cut_inside p.rect p.clips (x_of first k) first.y (c.requires.shown k h)) in
    let mask = c.deref.result.now in
    painted_as (λ (k : ℕ) (d : Px). blended Normal (scaled c.args.colour (slice_index mask k)) d) (λ (k : ℕ) (d : Px). over_primitive store p (x_of first k) first.y d) c.args.strip.span _ _
    (λ k h. over_as store p (x_of first k) first.y (scaled c.args.colour (slice_index mask k)) _ (covered_under store p (x_of first k) first.y c.args.colour (slice_index mask k) (own k h)
    (ap (λ (l : List ℕ). slice_index l k) c.deref.ensures.value ∙ c.cover_plane.ensures.inside k h ∙ ap (λ (cs : List Clip). coverage_at cs first k) c.clips.ensures.value)))
    c.over_masked.ensures
