use Rattle.std.proofs.Common.{rules, sym, subst, w32}
use Rattle.std.proofs.lemmas.Int.{to_z-of_z}
use mir.Val.{SFits}
use Rattle.wr_geom.specs.Bounds.{IsRect}
use Rattle.tile_grid.proofs.Grids.{rect_is}
use Rattle.tile_grid.proofs.tile.tile_rect.Goals as goal

pub unwrap-requires : goal.unwrap-requires
unwrap-requires c =
    let fc : SFits w32 c.args.col = search rules in
    let fr : SFits w32 c.args.row = search rules in
    let fx : SFits w32 c.near_edge-x0.result = search rules in
    let fy : SFits w32 c.near_edge-y0.result = search rules in
    let fx1 : SFits w32 c.far_edge-x1.result = search rules in
    let fy1 : SFits w32 c.far_edge-y1.result = search rules in
    let x0 = rw (to_z-of_z w32 c.args.col fc) at c.near_edge-x0.ensures in
    let y0 = rw (to_z-of_z w32 c.args.row fr) at c.near_edge-y0.ensures in
    let x1 = rw (to_z-of_z w32 c.near_edge-x0.result fx) at c.far_edge-x1.ensures in
    let y1 = rw (to_z-of_z w32 c.near_edge-y0.result fy) at c.far_edge-y1.ensures in
    let all = subst IsRect (sym (rect_is c.args.sides c.args.col c.args.row _ _ _ _ x0 y0 x1 y1)) c.requires in
    let w = rw (to_z-of_z w32 c.near_edge-x0.result fx, to_z-of_z w32 c.near_edge-y0.result fy, to_z-of_z w32 c.far_edge-x1.result fx1, to_z-of_z w32 c.far_edge-y1.result fy1) at c.new.ensures.some in
    w.1 all
