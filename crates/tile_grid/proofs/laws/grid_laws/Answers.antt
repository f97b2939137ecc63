use Rattle.tile_grid.proofs.Grids.{tiles_that_meet_are_listed}
use Rattle.tile_grid.proofs.Lists.{listed_are_tiles, tiles_come_by_row, tiles_by_index, tiles_are_counted}
use Rattle.tile_grid.proofs.Ranges.{tiles_are_in_range}
use Rattle.tile_grid.proofs.laws.grid_laws.Goals as goal

pub returns-clause-meeting : goal.returns-clause-meeting
returns-clause-meeting c = tiles_that_meet_are_listed

pub returns-clause-tiles : goal.returns-clause-tiles
returns-clause-tiles c = listed_are_tiles

pub returns-clause-order : goal.returns-clause-order
returns-clause-order c = tiles_come_by_row

pub returns-clause-index : goal.returns-clause-index
returns-clause-index c = tiles_by_index

pub returns-clause-count : goal.returns-clause-count
returns-clause-count c = tiles_are_counted

pub returns-clause-ranges : goal.returns-clause-ranges
returns-clause-ranges c = tiles_are_in_range
