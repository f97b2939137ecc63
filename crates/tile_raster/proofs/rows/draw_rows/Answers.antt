use Rattle.std.proofs.Common.{arith, ◌≡◌, ◌<◌, inl, inr, ℕ, ℤ, pos, ◌+ℤ◌, subst, sym, ap₂, ◌∙◌}
use Rattle.std.proofs.lemmas.Bool.{cases_lt}
use Rattle.primitives.specs.Stacks.{value_at}
use Rattle.span_kernels.specs.PlanesModel.{pixel_at}
use Rattle.tile_raster.specs.Lists.{entries_of}
use Rattle.tile_raster.specs.Rasters.{AreWide, IsFit}
use Rattle.tile_raster.proofs.rows.draw_rows.Goals as goal

pub loop-y-preserved : goal.loop-y-preserved
loop-y-preserved c =
    let es = (entries_of c.args.drawing.entries) in
    let store = c.args.drawing.store.now in
    let inv = c.loop-y.invariant in
    record {
      across = c.put_row.ensures.width ∙ inv.across;
      down = c.put_row.ensures.height ∙ inv.down;
      done = λ x v hx hv.
          let in_row : x < c.loop-y.out.width = omega (arith, hx, c.put_row.ensures.width) in
          elim (cases_lt v c.loop-y.y) [
            | inl before ↦ c.put_row.ensures.rows x v in_row (λ e. absurd (omega (arith, before, e))) ∙ inv.done x v in_row before
            | inr now ↦
                let is : v ≡ c.loop-y.y = omega (arith, now, hv) in
                subst (λ (n : ℕ). pixel_at c.put_row.new.out x n ≡ value_at es store (c.args.corner.x +ℤ pos x) (c.args.corner.y +ℤ pos n)) (sym is)
                (c.put_row.ensures.here x in_row ∙ c.draw_row.ensures.value x (omega (arith, in_row, inv.across, c.width-count.ensures)) ∙ ap₂ (λ (u w : ℤ). value_at es store (u +ℤ pos x) w) c.first_of-first.ensures.x c.first_of-first.ensures.y)
          ];
      row = c.draw_row.ensures.width ∙ inv.row;
      levels = c.draw_row.ensures.levels ∙ inv.levels;
      wide = subst (λ (n : ℕ). AreWide n c.draw_row.new.levels) inv.row c.draw_row.ensures.wide;
      tools = subst (λ (n : ℕ). IsFit n c.draw_row.new.tools) inv.row c.draw_row.ensures.tools;
    }
