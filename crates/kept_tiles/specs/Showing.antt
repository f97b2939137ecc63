-- What kept tiles show, once the work on some tiles is done.
use Rattle.std.specs.Prelude.{◌≡◌, ℕ, List, [], ◌∷◌, Option, Some, None, IsTrue, All, ℤ, false}
use Rattle.std.specs.Map.{lookup}
use Rattle.wr_geom.specs.Bounds.{holds}
use Rattle.wr_geom.specs.declared.keys.TileKey.{TileKey}
use Rattle.image_store.specs.StoreModel.{StoreModel}
use Rattle.primitives.specs.Stacks.{value_at}
use Rattle.primitives.specs.declared.entry.Entry.{Entry}
use Rattle.tile_grid.specs.declared.tile.TileSides.{TileSides}
use Rattle.tile_store.specs.Keys.{same_key}
use Rattle.kept_tiles.specs.Tiles.{KeptTile, KeptTiles, KeptModel, colour_of, kept_at, kept_of}
use Rattle.kept_tiles.specs.Work.{Records, Shown, IsWorkDone, records_of, work_on}
use Rattle.kept_tiles.specs.Sound.{IsCurrent, AreSound}

-- a tile that isn't kept has no entries, and a kept one has their value at each of its points
abbrev pub ShowsEntries : StoreModel → List Entry → Option KeptTile → Type 0
ShowsEntries store es None = es ≡ []
ShowsEntries store es (Some tile) = (x y : ℤ) → IsTrue (holds tile.rect x y) → colour_of tile x y ≡ value_at es store x y

abbrev pub AreShown : StoreModel → KeptTiles → List Shown → Type 0
AreShown store tiles [] = Unit {0}
AreShown store tiles (v ∷ vs) = ShowsEntries store v.entries (kept_at v.key tiles) × AreShown store tiles vs

-- no key comes twice
abbrev pub HaveOneKey : Records → Type 0
HaveOneKey [] = Unit {0}
HaveOneKey (e ∷ es) = (lookup (same_key e.0) es ≡ None) × HaveOneKey es

abbrev pub IsApartFrom : TileKey → List Shown → Type 0
IsApartFrom key [] = Unit {0}
IsApartFrom key (v ∷ vs) = (same_key key v.key ≡ false) × IsApartFrom key vs

abbrev pub AreApart : List Shown → Type 0
AreApart [] = Unit {0}
AreApart (v ∷ vs) = IsApartFrom v.key vs × AreApart vs

-- the entries of each use what is stored now
abbrev pub AreAllCurrent : StoreModel → List Shown → Type 0
AreAllCurrent store [] = Unit {0}
AreAllCurrent store (v ∷ vs) = All (IsCurrent store) v.entries × AreAllCurrent store vs

-- once the work on tiles with keys of their own is done and kept tiles are sound, each of them shows its entries
abbrev pub WorkShows : Type 0
WorkShows = (sides : TileSides) (n : ℕ) (store : StoreModel) (old new : KeptModel) (shown : List Shown)
    → AreSound sides n store (kept_of new) → IsWorkDone old new (work_on old shown)
    → HaveOneKey (records_of (kept_of old)) → AreApart shown → AreAllCurrent store shown
    → AreShown store (kept_of new) shown

-- and no key comes twice
abbrev pub WorkKeepsOneKey : Type 0
WorkKeepsOneKey = (old new : KeptModel) (shown : List Shown) → IsWorkDone old new (work_on old shown) → HaveOneKey (records_of (kept_of old)) → HaveOneKey (records_of (kept_of new))
