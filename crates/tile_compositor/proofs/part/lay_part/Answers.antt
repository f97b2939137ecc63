use Rattle.std.proofs.Common.{◌≡◌, ◌<◌, ◌+◌, ◌-◌, ◌-ℤ◌, ℕ, pos, subst, sym, ap, ap₂, ◌∙◌, arith}
use Rattle.blend_rules.specs.Colour.{IsPixel, blended}
use Rattle.blend_rules.specs.declared.colour.Px.{Px}
use Rattle.blend_rules.specs.declared.mode.Mode.TheVariants.{Normal}
use Rattle.span_kernels.specs.PlanesModel.{pixel_at}
use Rattle.tile_compositor.specs.Laid.{IsLaid, bounds_of, lies_in, row_colour}
use Rattle.tile_compositor.specs.Composition.{tile_colour}
use Rattle.tile_compositor.proofs.Painting.{none_painted, more_painted, lies_not}
use Rattle.tile_compositor.proofs.part.lay_part.Goals as goal

pub lay_span-requires-clause-frame : goal.lay_span-requires-clause-frame
lay_span-requires-clause-frame g c x h =
    let before = c.loop-y.invariant.painted in
    let y = c.loop-y.y in
    let inside : x < c.args.planes.now.width = omega (arith, h, before.sides.width) in
    let below : y < c.args.planes.now.height = omega (arith, c.requires.part.bottom) in
    subst IsPixel (sym (before.outside x y inside below (lies_not (record { left = c.args.part.left; top = c.args.part.top; right = c.args.part.right; bottom = y }) x y (λ i. let b = i.bottom in omega arith)))) (c.requires.frame x y inside below)

pub loop-y-init : goal.loop-y-init
loop-y-init g c = record {
  painted =
      none_painted (λ x y. blended Normal (tile_colour c.args.tile.now (pos x -ℤ c.args.origin.x) (pos y -ℤ c.args.origin.y)) (pixel_at c.args.planes.now x y)) c.args.part.left c.args.part.top c.args.part.right
      c.args.planes.now;
  low = omega arith;
  high = c.requires.part.down;
}

pub loop-y-preserved : goal.loop-y-preserved
loop-y-preserved g c =
    let frame = c.args.planes.now in
    let tile = c.args.tile.now in
    let origin = c.args.origin in
    let mid = c.loop-y.planes in
    let y = c.loop-y.y in
    let part = c.args.part in
    let before = c.loop-y.invariant.painted in
    let source = c.source_of-source.result in
    let below : y < frame.height = omega (arith, c.requires.part.bottom) in
    record {
      painted =
          more_painted (λ (x v : ℕ). blended Normal (tile_colour tile (pos x -ℤ origin.x) (pos v -ℤ origin.y)) (pixel_at frame x v)) (λ (x : ℕ). blended Normal (row_colour source (x - part.left)) (pixel_at mid x y))
          part.left part.top part.right y frame mid _ c.loop-y.invariant.low c.requires.part.right before c.lay_span.ensures
          (λ x low high.
          let at : part.left + (x - part.left) ≡ x = omega arith in
          ap₂ (λ (s d : Px). blended Normal s d)
          (c.source_of-source.ensures.colours (x - part.left) (omega arith) ∙ ap (λ (n : ℕ). tile_colour tile (pos n -ℤ origin.x) (pos y -ℤ origin.y)) at)
          (before.outside x y (omega (arith, high, c.requires.part.right)) below (lies_not (record { left = part.left; top = part.top; right = part.right; bottom = y }) x y (λ i. let b = i.bottom in omega arith))));
      low = omega (arith, c.loop-y.invariant.low);
      high = omega arith;
    }

pub returns : goal.returns
returns g c =
    let part = c.args.part in
    let end : c.loop-y.y ≡ part.bottom = omega (arith, c.loop-y.invariant.high) in
    subst (λ (n : ℕ). IsLaid (λ x y. blended Normal (tile_colour c.args.tile.now (pos x -ℤ c.args.origin.x) (pos y -ℤ c.args.origin.y)) (pixel_at c.args.planes.now x y)) (lies_in (bounds_of (record { left = part.left; top = part.top; right = part.right; bottom = n }))) c.args.planes.now c.loop-y.planes) end
    c.loop-y.invariant.painted
