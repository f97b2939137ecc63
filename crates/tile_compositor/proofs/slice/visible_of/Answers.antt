use Rattle.std.proofs.Common.{subst, sym, ap, ◌∙◌}
use Rattle.wr_geom.specs.Bounds.{IsInRange, shifted}
use Rattle.wr_geom.specs.declared.point.Point.{Point}
use Rattle.tile_grid.specs.Grids.{HasTileRoom}
use Rattle.tile_compositor.proofs.Moves.{shown_in_range, shown_has_room}
use Rattle.tile_compositor.proofs.slice.visible_of.Goals as goal

pub shift-shown-requires : goal.shift-shown-requires
shift-shown-requires c =
    subst (λ (q : Point). IsInRange (shifted c.args.slice.now.shown q)) (sym c.way_back.ensures)
    (shown_in_range c.args.slice.now c.args.frame.now c.requires.slice.origin c.requires.slice.shown c.know_planes.ensures.wide c.know_planes.ensures.high c.requires.points)

pub over-requires-clause-room : goal.over-requires-clause-room
over-requires-clause-room c =
    subst HasTileRoom (sym (c.shift-shown.ensures.value ∙ ap (λ (q : Point). shifted c.args.slice.now.shown q) c.way_back.ensures))
    (shown_has_room c.args.slice.now c.args.frame.now c.requires.slice.origin c.requires.slice.shown c.know_planes.ensures.wide c.know_planes.ensures.high c.requires.points)
