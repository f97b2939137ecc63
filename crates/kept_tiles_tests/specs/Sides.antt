-- The sides of the tiles.
use Rattle.tile_grid.specs.declared.tile.TileSides.{TileSides}

abbrev pub sides : TileSides
sides = record { width = 64; height = 64 }
