-- What holds of slices, for whoever draws them.
use Rattle.std.specs.Prelude.{◌≢◌, ◌≤◌, List, map, length, All, AllPairs, IsTrue}
use Rattle.wr_geom.specs.Bounds.{Bounds, Covers}
use Rattle.primitives.specs.declared.entry.Top.{Top}
use Rattle.primitives.specs.Facts.{IsEntry}
use Rattle.primitives.specs.Stacks.{balanced, IsRow}
use Rattle.primitives.specs.Tops.{IsSliceOrigin}
use Rattle.picture_slices.specs.declared.slice.Slice.{Slice}

-- each entry of each of these tops is good
abbrev pub HaveGoodEntries : List Top → Type 0
HaveGoodEntries tops = All (λ t. All IsEntry t.entries) tops

-- its entries are good and balanced, primitives and whole groups in order, and it shows in the view
pub record IsSlice (view : Bounds) (s : Slice) : Type 0 where
  pub entries : All IsEntry s.entries
  pub row : IsRow s.entries
  pub balanced : IsTrue (balanced 0 s.entries)
  pub origin : IsSliceOrigin s.origin
  pub shown : Covers view s.shown

-- at most eight slices, with keys of their own
pub record AreSlices (view : Bounds) (slices : List Slice) : Type 0 where
  pub each : All (IsSlice view) slices
  pub keys : AllPairs (λ k l. k ≢ l) (map (λ s. s.key) slices)
  pub few : length slices ≤ 8
