-- What is measured.
use Rattle.std.specs.Prelude.{◌≡◌}
use Rattle.span_kernels.specs.PlanesModel.{PlanesModel}
use Rattle.tile_grid.specs.declared.tile.TileSides.{TileSides}

-- the sides of each tile
abbrev pub frame_tiles : TileSides
frame_tiles = record { width = 256; height = 256 }

-- planes have the sides of the frame
pub record AreFrame (planes : PlanesModel) : Type 0 where
  pub wide : planes.width ≡ 1280
  pub high : planes.height ≡ 800
