use Rattle.std.proofs.Common.{rules, ◌≡◌, ◌↔◌, IsTrue, Contains, ℕ, ℤ, sym, ap, ap₂, subst, ◌∙◌, w32}
use Rattle.std.proofs.lemmas.Int.{to_z-of_z}
use mir.Val.{SFits}
use Rattle.wr_geom.specs.Bounds.{has_points}
use Rattle.tile_grid.specs.declared.axis.TileSpan.{TileSpan}
use Rattle.tile_grid.specs.Tiles.{meets, tile, tile_rect}
use Rattle.tile_grid.specs.Grids.{GridModel, IsGrid, span_over, tiles_of, grid_over}
use Rattle.tile_grid.proofs.Grids.{over_points, over_none, tiles_that_meet_are_listed}
use Rattle.tile_grid.proofs.Lists.{tiles_come_by_row}
use Rattle.tile_grid.proofs.Parts.{not_true, not_false}
use Rattle.tile_grid.proofs.Ranges.{tiles_are_in_range}
use Rattle.tile_grid.proofs.grid.TileGrid.over.Goals as goal

pub returns-then-is_empty-clause-value : goal.returns-then-is_empty-clause-value
returns-then-is_empty-clause-value c = over_none c.args.sides c.args.part (not_true (has_points c.args.part) (sym c.if-is_empty.true ∙ c.is_empty.ensures.value))

pub returns-then-is_empty-clause-tiles : goal.returns-then-is_empty-clause-tiles
returns-then-is_empty-clause-tiles c col row =
    subst (λ (g : GridModel). Contains (tiles_of g) (tile c.args.sides col row) ↔ IsTrue (meets (tile_rect c.args.sides col row) c.args.part))
    (sym (returns-then-is_empty-clause-value c)) (tiles_that_meet_are_listed c.args.sides c.args.part col row c.requires.sides)

span_of : (n : ℕ) (s : TileSpan) (a b x y : ℤ) → s ≡ span_over n a b → a ≡ x → b ≡ y → s ≡ span_over n x y
span_of n s a b x y e f g = e ∙ ap (λ (z : ℤ). span_over n z b) f ∙ ap (λ (z : ℤ). span_over n x z) g

grid_is : (c : goal.After-span_over-2) → record { sides = c.args.sides; columns = c.span_over.result; rows = c.span_over-2.result } ≡ grid_over c.args.sides c.args.part
grid_is c =
    let b = c.args.part in
    let fx : SFits w32 c.x0.result = search rules in
    let gx : SFits w32 c.x1.result = search rules in
    let fy : SFits w32 c.y0.result = search rules in
    let gy : SFits w32 c.y1.result = search rules in
    let columns = span_of c.args.sides.width c.span_over.result _ _ b.x0 b.x1 c.span_over.ensures (to_z-of_z w32 c.x0.result fx ∙ c.x0.ensures.value) (to_z-of_z w32 c.x1.result gx ∙ c.x1.ensures.value) in
    let rows = span_of c.args.sides.height c.span_over-2.result _ _ b.y0 b.y1 c.span_over-2.ensures (to_z-of_z w32 c.y0.result fy ∙ c.y0.ensures.value) (to_z-of_z w32 c.y1.result gy ∙ c.y1.ensures.value) in
    ap₂ (λ (s t : TileSpan). let g : GridModel = record { sides = c.args.sides; columns = s; rows = t } in g) columns rows
    ∙ over_points c.args.sides b (not_false (has_points b) (sym c.if-is_empty.false ∙ c.is_empty.ensures.value))

pub invariant_of-result-2 : goal.invariant_of-result-2
invariant_of-result-2 c = subst IsGrid (sym (grid_is c)) (tiles_are_in_range c.args.sides c.args.part c.requires.sides c.requires.room)

pub returns-clause-value : goal.returns-clause-value
returns-clause-value c = grid_is c

pub returns-clause-tiles : goal.returns-clause-tiles
returns-clause-tiles c col row =
    subst (λ (g : GridModel). Contains (tiles_of g) (tile c.args.sides col row) ↔ IsTrue (meets (tile_rect c.args.sides col row) c.args.part))
    (sym (grid_is c)) (tiles_that_meet_are_listed c.args.sides c.args.part col row c.requires.sides)

pub returns-clause-order : goal.returns-clause-order
returns-clause-order c = tiles_come_by_row (record { sides = c.args.sides; columns = c.span_over.result; rows = c.span_over-2.result })
