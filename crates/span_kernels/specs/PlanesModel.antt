-- Four planes of bytes, as contracts see them.
use Rattle.std.specs.Prelude.{◌≡◌, ℕ, ◌+◌, ◌*◌, ◌<◌, ◌^◌, List, ◌++◌, take, drop, length, replicate, slice_index_or}
use Rattle.blend_rules.specs.declared.colour.Px.{Px}
use Rattle.blend_rules.specs.declared.plane.Plane.{Plane}
use Rattle.blend_rules.specs.declared.plane.Plane.TheVariants.{B, G, R, A}

-- the sides in pixels, and the bytes of each plane row by row
pub record PlanesModel : Type 0 where
  pub width : ℕ
  pub height : ℕ
  pub blue : List ℕ
  pub green : List ℕ
  pub red : List ℕ
  pub alpha : List ℕ

-- the bytes of a plane
abbrev pub plane_of : Plane → PlanesModel → List ℕ
plane_of B planes = planes.blue
plane_of G planes = planes.green
plane_of R planes = planes.red
plane_of A planes = planes.alpha

-- the planes with other bytes in one of them
abbrev pub with_plane : Plane → List ℕ → PlanesModel → PlanesModel
with_plane B bytes planes = record planes { blue = bytes }
with_plane G bytes planes = record planes { green = bytes }
with_plane R bytes planes = record planes { red = bytes }
with_plane A bytes planes = record planes { alpha = bytes }

-- the index in a plane of the byte at a column and row
abbrev pub index_of : PlanesModel → ℕ → ℕ → ℕ
index_of planes x y = y * planes.width + x

-- the byte of a plane at a column and row
abbrev pub byte_at : Plane → PlanesModel → ℕ → ℕ → ℕ
byte_at plane planes x y = slice_index_or (plane_of plane planes) (index_of planes x y) 0

-- the colour at a column and row
abbrev pub pixel_at : PlanesModel → ℕ → ℕ → Px
pixel_at planes x y = record {
  b = byte_at B planes x y;
  g = byte_at G planes x y;
  r = byte_at R planes x y;
  a = byte_at A planes x y;
}

-- so many bytes of a plane in row y, from column x on
abbrev pub part_of : Plane → PlanesModel → ℕ → ℕ → ℕ → List ℕ
part_of plane planes y x count = take count (drop (index_of planes x y) (plane_of plane planes))

-- a list with others in place of its own from an index on, as far as it goes
abbrev pub overwritten : List ℕ → ℕ → List ℕ → List ℕ
overwritten old at new =
    let all = take at old ++ (new ++ drop (length new) (drop at old)) in take (length old) (all ++ drop (length all) old)

-- the planes with bytes written into row y of one of them, from column x on
abbrev pub with_part : Plane → ℕ → ℕ → List ℕ → PlanesModel → PlanesModel
with_part plane y x bytes planes = with_plane plane (overwritten (plane_of plane planes) (index_of planes x y) bytes) planes

-- planes of these sides, all of whose bytes are 0
abbrev pub blank_planes : ℕ → ℕ → PlanesModel
blank_planes width height = record {
  width = width;
  height = height;
  blue = replicate (height * width) 0;
  green = replicate (height * width) 0;
  red = replicate (height * width) 0;
  alpha = replicate (height * width) 0;
}

-- each plane has a byte for each pixel, and no side is longer than 65,535
pub record IsWhole (planes : PlanesModel) : Type 0 where
  pub wide : planes.width < 2 ^ 16
  pub high : planes.height < 2 ^ 16
  pub each : (plane : Plane) → length (plane_of plane planes) ≡ planes.height * planes.width
