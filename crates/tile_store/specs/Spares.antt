-- Planes of tiles that were given up, kept for tiles to come.
use Rattle.std.specs.Prelude.{◌≡◌, ℕ, ◌≤◌, ◌*◌, List, All, length}
use Rattle.span_kernels.specs.PlanesModel.{PlanesModel}
use Rattle.tile_store.specs.declared.limits.TheConstants.{MAX_SPARE_TILES, MAX_SPARE_PIXELS}

-- spare planes, and the sides in pixels that all of them have
pub record SparesModel : Type 0 where
  pub width : ℕ
  pub height : ℕ
  pub planes : List PlanesModel

-- planes have these sides
pub record HasSides (width height : ℕ) (planes : PlanesModel) : Type 0 where
  pub wide : planes.width ≡ width
  pub high : planes.height ≡ height

-- all have their sides, and there are no more of them than the limits allow
pub record AreSpares (spares : SparesModel) : Type 0 where
  pub sides : All (HasSides spares.width spares.height) spares.planes
  pub count : length spares.planes ≤ MAX_SPARE_TILES
  pub pixels : length spares.planes * (spares.height * spares.width) ≤ MAX_SPARE_PIXELS
