-- Rows of levels.
use Rattle.std.proofs.Common.{◌≡◌, ℕ, suc, List, ◌∷◌, subst, arith}
use Rattle.tile_raster.specs.declared.level.LevelRows.{LevelRows}
use Rattle.tile_raster.specs.Rasters.{AreWide}

pub rest_wide : (n : ℕ) (ls rest : List LevelRows) (l : LevelRows) → ls ≡ l ∷ rest → AreWide n ls → AreWide n rest
rest_wide n ls rest l e h k d less = subst (AreWide n) e h (suc k) d (omega (arith, less))
