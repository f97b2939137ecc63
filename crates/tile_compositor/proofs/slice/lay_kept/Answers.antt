use Rattle.std.proofs.Common.{◌≡◌, pos, ◌-ℤ◌, IsTrue, subst, sym, ap, ap₂, refl, ◌∙◌}
use Rattle.std.proofs.lemmas.Bool.{not-false}
use Rattle.wr_geom.specs.Bounds.{Bounds, Covers, HasNoPoint, IsInRange, has_points, intersection, shifted}
use Rattle.blend_rules.specs.Colour.{blended}
use Rattle.blend_rules.specs.declared.mode.Mode.TheVariants.{Normal}
use Rattle.span_kernels.specs.PlanesModel.{pixel_at}
use Rattle.tile_compositor.specs.Laid.{bounds_of, frame_rect, lies_in}
use Rattle.tile_compositor.specs.Composition.{shows_in, tile_colour}
use Rattle.tile_compositor.proofs.Moves.{shown_part, part_holds, nothing_shows, part_covered, part_points, part_in_range, part_over}
use Rattle.tile_compositor.proofs.Painting.{painted_where}
use Rattle.tile_compositor.proofs.slice.lay_kept.Goals as goal

pub returns-then-is_empty : goal.returns-then-is_empty
returns-then-is_empty g c =
    let p = c.args.slice.now in
    let rect = c.args.tile.now.rect in
    let part_is : c.intersect-part.result ≡ shown_part p rect = c.intersect-part.ensures.value ∙ ap₂ intersection c.rect.ensures.value c.requires.shown in
    let none : HasNoPoint (shown_part p rect) = subst HasNoPoint part_is (c.is_empty.ensures.points.0 c.if-is_empty.true) in
    record {
      sides = record { width = refl; height = refl };
      inside = λ x y hx hy h. absurd (nothing_shows p rect none x y h);
      outside = λ x y hx hy far. refl;
    }

pub shift-requires : goal.shift-requires
shift-requires g c =
    let p = c.args.slice.now in
    let rect = c.args.tile.now.rect in
    let part_is : c.intersect-part.result ≡ shown_part p rect = c.intersect-part.ensures.value ∙ ap₂ intersection c.rect.ensures.value c.requires.shown in
    let points : IsTrue (has_points (shown_part p rect)) = subst (λ (b : Bounds). IsTrue (has_points b)) part_is (not-false (has_points c.intersect-part.result) (sym c.is_empty.ensures.value ∙ c.if-is_empty.false)) in
    subst (λ (b : Bounds). IsInRange (shifted b p.origin)) (sym part_is) (part_in_range p rect c.args.planes.now c.requires.slice.shown c.know_planes.ensures.wide c.know_planes.ensures.high points)

pub part_of-part-requires-clause-points : goal.part_of-part-requires-clause-points
part_of-part-requires-clause-points g c =
    let p = c.args.slice.now in
    let rect = c.args.tile.now.rect in
    let part_is : c.intersect-part.result ≡ shown_part p rect = c.intersect-part.ensures.value ∙ ap₂ intersection c.rect.ensures.value c.requires.shown in
    let points : IsTrue (has_points (shown_part p rect)) = subst (λ (b : Bounds). IsTrue (has_points b)) part_is (not-false (has_points c.intersect-part.result) (sym c.is_empty.ensures.value ∙ c.if-is_empty.false)) in
    let shift_is : c.shift.result ≡ shifted (shown_part p rect) p.origin = c.shift.ensures.value ∙ ap (λ (b : Bounds). shifted b p.origin) part_is in
    subst (λ (b : Bounds). IsTrue (has_points b)) (sym shift_is) (part_points p rect c.args.planes.now c.requires.slice.shown points)

pub part_of-part-requires-clause-inside : goal.part_of-part-requires-clause-inside
part_of-part-requires-clause-inside g c =
    let p = c.args.slice.now in
    let rect = c.args.tile.now.rect in
    let part_is : c.intersect-part.result ≡ shown_part p rect = c.intersect-part.ensures.value ∙ ap₂ intersection c.rect.ensures.value c.requires.shown in
    let shift_is : c.shift.result ≡ shifted (shown_part p rect) p.origin = c.shift.ensures.value ∙ ap (λ (b : Bounds). shifted b p.origin) part_is in
    subst (λ (b : Bounds). Covers (frame_rect c.args.planes.now) b) (sym shift_is) (part_covered p rect c.args.planes.now c.requires.slice.shown)

pub lay_part-requires-clause-over : goal.lay_part-requires-clause-over
lay_part-requires-clause-over g c =
    let p = c.args.slice.now in
    let rect = c.args.tile.now.rect in
    let part_is : c.intersect-part.result ≡ shown_part p rect = c.intersect-part.ensures.value ∙ ap₂ intersection c.rect.ensures.value c.requires.shown in
    let points : IsTrue (has_points (shown_part p rect)) = subst (λ (b : Bounds). IsTrue (has_points b)) part_is (not-false (has_points c.intersect-part.result) (sym c.is_empty.ensures.value ∙ c.if-is_empty.false)) in
    let shift_is : c.shift.result ≡ shifted (shown_part p rect) p.origin = c.shift.ensures.value ∙ ap (λ (b : Bounds). shifted b p.origin) part_is in
    part_over p rect c.args.planes.now c.requires.slice.shown c.part_of-part.result (c.part_of-part.ensures.bounds ∙ shift_is) points

pub returns : goal.returns
returns g c =
    let p = c.args.slice.now in
    let rect = c.args.tile.now.rect in
    let part_is : c.intersect-part.result ≡ shown_part p rect = c.intersect-part.ensures.value ∙ ap₂ intersection c.rect.ensures.value c.requires.shown in
    let shift_is : c.shift.result ≡ shifted (shown_part p rect) p.origin = c.shift.ensures.value ∙ ap (λ (b : Bounds). shifted b p.origin) part_is in
    painted_where (λ x y. blended Normal (tile_colour c.args.tile.now (pos x -ℤ p.origin.x) (pos y -ℤ p.origin.y)) (pixel_at c.args.planes.now x y)) (lies_in (bounds_of c.part_of-part.result)) (shows_in p rect) c.args.planes.now _
    (λ x y. ap (λ (b : Bounds). lies_in b x y) (c.part_of-part.ensures.bounds ∙ shift_is) ∙ part_holds p rect x y) c.lay_part.ensures
