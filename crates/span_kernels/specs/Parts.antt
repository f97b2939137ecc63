-- What a write to a part of a row leaves.
use Rattle.std.specs.Prelude.{◌≡◌, ◌≢◌, ℕ, ◌+◌, ◌<◌, ◌≤◌, ◌⊎◌, List, length, slice_index_or}
use Rattle.blend_rules.specs.declared.plane.Plane.{Plane}
use Rattle.blend_rules.specs.Pixels.{written}
use Rattle.span_kernels.specs.PlanesModel.{PlanesModel, overwritten, byte_at, plane_of, with_part, IsWhole}

-- new is old with bytes in row y of one plane from column x on, and every other byte is as it was
pub record IsPartWritten (old new : PlanesModel) (plane : Plane) (y x : ℕ) (bytes : List ℕ) : Type 0 where
  pub width : new.width ≡ old.width
  pub height : new.height ≡ old.height
  pub inside : (k : ℕ) → k < length bytes → byte_at plane new (x + k) y ≡ slice_index_or bytes k 0
  pub outside : (column row : ℕ) → column < old.width → (row ≢ y) ⊎ (column < x) ⊎ (x + length bytes ≤ column)
      → byte_at plane new column row ≡ byte_at plane old column row
  pub others : (other : Plane) → other ≢ plane → plane_of other new ≡ plane_of other old
  pub whole : IsWhole old → IsWhole new

-- bytes that fit into a row of whole planes are written there and nowhere else
abbrev pub PartIsWritten : Type 0
PartIsWritten = (planes : PlanesModel) (plane : Plane) (y x : ℕ) (bytes : List ℕ) → IsWhole planes → y < planes.height
    → x + length bytes ≤ planes.width → IsPartWritten planes (with_part plane y x bytes planes) plane y x bytes

-- where the others fit, a list is overwritten as it is written
abbrev pub FittingIsWritten : Type 0
FittingIsWritten = (old : List ℕ) (at : ℕ) (new : List ℕ) → at + length new ≤ length old
    → overwritten old at new ≡ written old at new
