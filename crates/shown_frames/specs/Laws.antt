-- What joins slices, kept tiles and frames, as laws on the definitions.
use Rattle.std.specs.Prelude.{◌≡◌, ◌≤◌, ◌*◌, ℕ, ℤ, List, length, All, IsTrue}
use Rattle.wr_geom.specs.Bounds.{Bounds}
use Rattle.blend_rules.specs.declared.colour.Px.{Px}
use Rattle.image_store.specs.StoreModel.{StoreModel, IsStore}
use Rattle.primitives.specs.Stacks.{is_shallow}
use Rattle.primitives.specs.declared.entry.Top.{Top}
use Rattle.span_kernels.specs.PlanesModel.{PlanesModel}
use Rattle.tile_grid.specs.Grids.{IsViewPart}
use Rattle.tile_grid.specs.Tiles.{AreTileSides}
use Rattle.tile_grid.specs.declared.tile.TileSides.{TileSides}
use Rattle.picture_slices.specs.Facts.{AreSlices}
use Rattle.picture_slices.specs.Slices.{picture_slices}
use Rattle.picture_slices.specs.Values.{slices_over}
use Rattle.picture_slices.specs.declared.slice.Slice.{Slice}
use Rattle.tile_compositor.specs.Composition.{CanAllBeShown, IsPlacedIn, composed}
use Rattle.kept_tiles.specs.Showing.{AreShown, AreApart, AreAllCurrent}
use Rattle.kept_tiles.specs.Sound.{IsCurrent, AreSound}
use Rattle.kept_tiles.specs.Steps.{ArePlaced, CanBeShown}
use Rattle.kept_tiles.specs.Tiles.{KeptModel, kept_of}
use Rattle.kept_tiles.specs.Work.{frame_tiles}
use Rattle.shown_frames.specs.Placing.{AreViewSides, all_placed, view_of}

-- ---- a frame

-- kept tiles that show what is picked of the slices for them compose, at each point, to what the slices paint there
abbrev pub TilesPaintSlices : Type 0
TilesPaintSlices =
    (sides : TileSides) (view : Bounds) (store : StoreModel) (k : KeptModel) (slices : List Slice) (x y : ℤ) (below : Px)
    → AreTileSides sides → IsStore store → AreSlices view slices
    → AreShown store (kept_of k) (frame_tiles sides slices) → ArePlaced sides (kept_of k)
    → composed sides k.store.tiles (all_placed slices) x y below ≡ slices_over store x y slices below

-- no tile of a frame has the key of another
abbrev pub TilesAreApart : Type 0
TilesAreApart = (sides : TileSides) (view : Bounds) (slices : List Slice) → AreSlices view slices → AreApart (frame_tiles sides slices)

-- each of at most eight slices of a view meets at most 65 by 65 tiles
abbrev pub TilesAreFew : Type 0
TilesAreFew =
    (sides : TileSides) (view : Bounds) (slices : List Slice)
    → AreTileSides sides → IsViewPart view → AreSlices view slices → length (frame_tiles sides slices) ≤ 8 * (65 * 65)

-- where the slices' entries use what is stored now, those of each tile do
abbrev pub TilesAreCurrent : Type 0
TilesAreCurrent =
    (sides : TileSides) (store : StoreModel) (slices : List Slice)
    → All (λ s. All (IsCurrent store) s.entries) slices → AreAllCurrent store (frame_tiles sides slices)

-- ---- what is asked before a frame is shown

-- a view is a part of itself
abbrev pub ViewsAreViewParts : Type 0
ViewsAreViewParts = (w h : ℕ) → AreViewSides w h → IsViewPart (view_of w h)

-- what the slices of a picture show has edges in the view, also where it is empty
abbrev pub PictureSlicesAreViewParts : Type 0
PictureSlicesAreViewParts = (w h : ℕ) (tops : List Top) → AreViewSides w h → All (λ s. IsViewPart s.shown) (picture_slices (view_of w h) tops)

-- slices in such parts of a view can be shown, where their entries are few, shallow and current
abbrev pub SlicesCanBeShown : Type 0
SlicesCanBeShown =
    (view : Bounds) (store : StoreModel) (slices : List Slice)
    → AreSlices view slices → All (λ s. IsViewPart s.shown) slices
    → All (λ s. All (IsCurrent store) s.entries) slices
    → All (λ s. IsTrue (is_shallow 64 s.entries)) slices
    → All (λ s. length s.entries ≤ 131072) slices
    → All (CanBeShown store) slices

-- slices of a view can be placed in planes of its sides
abbrev pub SlicesArePlaced : Type 0
SlicesArePlaced =
    (w h : ℕ) (planes : PlanesModel) (slices : List Slice)
    → planes.width ≡ w → planes.height ≡ h → AreSlices (view_of w h) slices → All (IsPlacedIn planes) (all_placed slices)

-- sound tiles can be composed
abbrev pub SoundTilesCanBeShown : Type 0
SoundTilesCanBeShown = (sides : TileSides) (n : ℕ) (store : StoreModel) (k : KeptModel) → AreSound sides n store (kept_of k) → CanAllBeShown sides k.store.tiles
