use Rattle.std.proofs.Common.{◌≤◌, pos, ◌-ℤ◌}
use Rattle.blend_rules.specs.Colour.{blended}
use Rattle.blend_rules.specs.declared.mode.Mode.TheVariants.{Normal}
use Rattle.span_kernels.specs.PlanesModel.{pixel_at}
use Rattle.tile_compositor.specs.Laid.{IsLaid, bounds_of, lies_in}
use Rattle.tile_compositor.specs.Composition.{tile_colour}
use Rattle.tile_compositor.proofs.part.lay_part.Given as goal

-- the rows so far are laid
abbrev pub invariant-loop-y : goal.invariant-loop-y
invariant-loop-y g l = record {
  painted : IsLaid (λ x y. blended Normal (tile_colour l.tile (pos x -ℤ l.origin.x) (pos y -ℤ l.origin.y)) (pixel_at l.fn.planes x y))
      (lies_in (bounds_of (record { left = l.part.left; top = l.part.top; right = l.part.right; bottom = l.y }))) l.fn.planes l.planes;
  low : l.part.top ≤ l.y;
  high : l.y ≤ l.part.bottom;
}
