use Rattle.std.proofs.Common.{length, ap, sym, ◌∙◌}
use Rattle.tile_grid.specs.Grids.{tiles_of}
use Rattle.kept_tiles.specs.Work.{shown_tiles}
use Rattle.kept_tiles.proofs.Slices.{length_shown}
use Rattle.kept_tiles_tests.proofs.fits.count_tiles.Goals as goal

pub returns : goal.returns
returns c = c.count.ensures.value ∙ sym (length_shown c.args.slice.now c.visible.result) ∙ ap (λ g. length (shown_tiles c.args.slice.now (tiles_of g))) c.visible.ensures.value
