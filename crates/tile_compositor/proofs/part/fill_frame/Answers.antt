use Rattle.std.proofs.Common.{◌≡◌, ◌<◌, ℕ, inl, inr, subst, refl, ◌∙◌, arith}
use Rattle.std.proofs.lemmas.Bool.{cases_lt}
use Rattle.span_kernels.specs.PlanesModel.{pixel_at}
use Rattle.tile_compositor.proofs.part.fill_frame.Goals as goal

pub fill_span-requires : goal.fill_span-requires
fill_span-requires c = record {
  row = omega (arith, c.loop-y.invariant.sides.height, c.height-y-end.ensures);
  order = omega arith;
  inside = omega (arith, c.loop-y.invariant.sides.width, c.width-to.ensures);
}

pub loop-y-init : goal.loop-y-init
loop-y-init c = record { sides = record { width = refl; height = refl }; each = λ x y h k. absurd (omega (arith, k)); high = omega arith }

pub loop-y-preserved : goal.loop-y-preserved
loop-y-preserved c =
    let before = c.loop-y.invariant in
    let row = c.fill_span.ensures in
    let at = c.loop-y.y in
    let new = c.fill_span.new.planes in
    record {
      sides = record { width = row.sides.width ∙ before.sides.width; height = row.sides.height ∙ before.sides.height };
      each = λ x y h k.
          let inside : x < c.loop-y.planes.width = omega (arith, h, row.sides.width) in
          elim (cases_lt y at) [
            | inl less ↦ row.outside x y inside (inl (λ e. absurd (omega (arith, e, less)))) ∙ before.each x y inside less
            | inr high ↦
                let is : at ≡ y = omega (arith, high, k) in
                subst (λ (n : ℕ). pixel_at new x n ≡ c.args.colour) is (row.inside x (omega arith) (omega (arith, inside, before.sides.width, c.width-to.ensures)))
          ];
      high = omega (arith, c.height-y-end.ensures);
    }

pub returns-clause-each : goal.returns-clause-each
returns-clause-each c x y h k = c.loop-y.invariant.each x y h (omega (arith, k, c.loop-y.invariant.sides.height, c.height-y-end.ensures))
