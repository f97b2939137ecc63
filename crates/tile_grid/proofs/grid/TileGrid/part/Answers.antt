use Rattle.tile_grid.proofs.grid.TileGrid.part.Goals as goal
use Rattle.std.proofs.Common.{rules, sym, ◌∙◌, refl, w32}
use Rattle.std.proofs.lemmas.Int.{to_z-of_z}
use mir.Val.{SFits}
use Rattle.wr_geom.specs.Bounds.{has_points}
use Rattle.wr_geom.proofs.Points.{has_sides}
use Rattle.tile_grid.proofs.Parts.{not_true, not_false, part_none, part_meets, last_column, last_row}

pub returns-then-is_empty-clause-meets : goal.returns-then-is_empty-clause-meets
returns-then-is_empty-clause-meets c column row h k =
    part_none c.args.self c.args.rect _ column row refl (not_true (has_points c.args.rect) (sym c.if-is_empty.true ∙ c.is_empty.ensures.value))

pub part_of_span-requires-clause-last : goal.part_of_span-requires-clause-last
part_of_span-requires-clause-last c =
    let s = has_sides c.args.rect (not_false (has_points c.args.rect) (sym c.if-is_empty.false ∙ c.is_empty.ensures.value)) in
    let f : SFits w32 c.x1.result = search rules in
    rw (to_z-of_z w32 c.x1.result f, c.x1.ensures.value) (last_column c.args.rect c.x1.ensures.rect s)

pub part_of_span-requires-2-clause-last : goal.part_of_span-requires-2-clause-last
part_of_span-requires-2-clause-last c =
    let s = has_sides c.args.rect (not_false (has_points c.args.rect) (sym c.if-is_empty.false ∙ c.is_empty.ensures.value)) in
    let f : SFits w32 c.y1.result = search rules in
    rw (to_z-of_z w32 c.y1.result f, c.y1.ensures.value) (last_row c.args.rect c.y1.ensures.rect s)

pub returns-clause-meets : goal.returns-clause-meets
returns-clause-meets c column row h k =
    let s = has_sides c.args.rect (not_false (has_points c.args.rect) (sym c.if-is_empty.false ∙ c.is_empty.ensures.value)) in
    let fx : SFits w32 c.x0.result = search rules in
    let gx : SFits w32 c.x1.result = search rules in
    let fy : SFits w32 c.y0.result = search rules in
    let gy : SFits w32 c.y1.result = search rules in
    let across = rw (to_z-of_z w32 c.x0.result fx, to_z-of_z w32 c.x1.result gx, c.x0.ensures.value, c.x1.ensures.value, c.sides-sides.ensures.value, c.columns.ensures.value) at c.part_of_span.ensures.part column in
    let down = rw (to_z-of_z w32 c.y0.result fy, to_z-of_z w32 c.y1.result gy, c.y0.ensures.value, c.y1.ensures.value, c.sides-sides.ensures.value, c.rows.ensures.value) at c.part_of_span-2.ensures.part row in
    part_meets c.args.self c.args.rect _ column row c.sides-sides.ensures.grid.sides s (across h) (down k)
