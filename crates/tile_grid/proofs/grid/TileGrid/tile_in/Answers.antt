use Rattle.std.proofs.Common.{rules, w32}
use Rattle.std.proofs.lemmas.Int.{to_z-of_z}
use mir.Val.{SFits}
use Rattle.tile_grid.proofs.grid.TileGrid.tile_in.Goals as goal

pub tile-requires : goal.tile-requires
tile-requires c =
    let fc : SFits w32 c.at.result = search rules in
    let fr : SFits w32 c.at-2.result = search rules in
    let column = rw (← c.self.view_is) at c.requires.column in
    let row = rw (← c.self.view_is) at c.requires.row in
    rw (to_z-of_z w32 c.at.result fc, to_z-of_z w32 c.at-2.result fr, c.at.ensures, c.at-2.ensures) (c.self.invariant.rects c.args.column c.args.row column row)
