use Rattle.std.proofs.Common.{ℕ, ap, subst, ◌∙◌}
use Rattle.tile_grid.specs.Tiles.{meets}
use Rattle.tile_records.specs.Tiles.{rect_at}
use Rattle.tile_records.specs.Passing.{HasDrawnBlock, state}
use Rattle.tile_records.proofs.Paints.{paint_law}
use Rattle.tile_records.proofs.pass.Pass.draw.Goals as goal

pub returns : goal.returns
returns c =
    let p = c.part-part.result in
    paint_law c.args.tiles.now c.args.primitive.now c.part-part.result c.args.key (state c.args.self.now) (state c.draw_block.new.self)
    (λ x y h k. c.part-part.ensures.meets x y h k ∙ ap (meets (rect_at c.args.tiles.now x y)) c.visible.ensures)
    (subst (λ (n : ℕ). HasDrawnBlock n p.columns.from p.columns.to p.rows.from p.rows.to c.args.key (state c.args.self.now) (state c.draw_block.new.self)) c.columns-columns.ensures.value c.in_ok-draw_block.ensures)
