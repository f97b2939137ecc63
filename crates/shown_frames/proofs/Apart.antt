-- No two tiles of a frame have one key.
use Rattle.std.proofs.Common.{◌≡◌, ◌≢◌, suc, Bool, true, false, List, [], ◌∷◌, ◌++◌, map, All, inl, inr, ℤ, ◌<ℤ◌, refl, ap, arith}
use Rattle.std.specs.Prelude.{AllPairs}
use Rattle.std.proofs.lemmas.Int.{ints}
use Rattle.std.proofs.lemmas.List.Elements.{All-head, All-tail}
use Rattle.wr_geom.specs.declared.keys.SliceKey.{SliceKey}
use Rattle.wr_geom.specs.declared.keys.TileKey.{TileKey}
use Rattle.picture_slices.specs.declared.slice.Slice.{Slice}
use Rattle.tile_grid.specs.Grids.{IsBefore, grid_over, in_slice, tiles_of}
use Rattle.tile_grid.specs.declared.tile.GridTile.{GridTile}
use Rattle.tile_grid.specs.declared.tile.TileSides.{TileSides}
use Rattle.tile_grid.proofs.Lists.{tiles_come_by_row}
use Rattle.tile_store.specs.Keys.{same_key}
use Rattle.tile_store.proofs.Keys.{key_same}
use Rattle.kept_tiles.specs.Showing.{AreApart, IsApartFrom}
use Rattle.kept_tiles.specs.Work.{Shown, frame_tiles, key_of, shown_tiles, slice_tiles}
use Rattle.shown_frames.specs.Laws.{TilesAreApart}

-- ---- pairs of a list

pairs_first : {A : Type 0} (R : A → A → Type 0) (x : A) (xs : List A) → AllPairs R (x ∷ xs) → All (R x) xs
pairs_first R x xs h i d less = h 0 (suc i) d (omega arith) (omega (arith, less))

pairs_rest : {A : Type 0} (R : A → A → Type 0) (x : A) (xs : List A) → AllPairs R (x ∷ xs) → AllPairs R xs
pairs_rest R x xs h i j d before less = h (suc i) (suc j) d (omega (arith, before)) (omega (arith, less))

-- ---- keys that differ

-- different keys are told apart
told_by : (a b : TileKey) (t : Bool) → a ≢ b → same_key a b ≡ t → t ≡ false
told_by a b true n e = absurd (n (key_same a b e))
told_by a b false n e = refl

told_apart : (a b : TileKey) → a ≢ b → same_key a b ≡ false
told_apart a b n = told_by a b (same_key a b) n refl

not_below_itself : (a b : ℤ) → a <ℤ b → a ≢ b
not_below_itself a b h e = omega (arith, ints, h, e)

-- tiles of one slice that come one before the other
keys_differ : (s : Slice) (a b : GridTile) → IsBefore a b → key_of s.key a ≢ key_of s.key b
keys_differ s a b (inl h) e = not_below_itself a.row b.row h (ap (λ (k : TileKey). k.row) e)
keys_differ s a b (inr h) e = not_below_itself a.col b.col h.1 (ap (λ (k : TileKey). k.col) e)

-- ---- the tiles of one slice

row_apart : (s : Slice) (t : GridTile) (ts : List GridTile) → All (IsBefore t) ts → IsApartFrom (key_of s.key t) (shown_tiles s ts)
row_apart s t [] all = tt
row_apart s t (u ∷ ts) all = (
  told_apart (key_of s.key t) (key_of s.key u) (keys_differ s t u (All-head (IsBefore t) u ts all)),
  row_apart s t ts (All-tail (IsBefore t) u ts all),
)

rows_apart : (s : Slice) (ts : List GridTile) → AllPairs IsBefore ts → AreApart (shown_tiles s ts)
rows_apart s [] pairs = tt
rows_apart s (t ∷ ts) pairs = (row_apart s t ts (pairs_first IsBefore t ts pairs), rows_apart s ts (pairs_rest IsBefore t ts pairs))

-- ---- tiles of different slices

slice_apart : (key : TileKey) (s : Slice) (ts : List GridTile) → key.slice ≢ s.key → IsApartFrom key (shown_tiles s ts)
slice_apart key s [] n = tt
slice_apart key s (t ∷ ts) n = (told_apart key (key_of s.key t) (λ e. n (ap (λ (k : TileKey). k.slice) e)), slice_apart key s ts n)

apart_both : (key : TileKey) (vs ws : List Shown) → IsApartFrom key vs → IsApartFrom key ws → IsApartFrom key (vs ++ ws)
apart_both key [] ws h i = i
apart_both key (v ∷ vs) ws h i = (h.0, apart_both key vs ws h.1 i)

slices_apart : (sides : TileSides) (key : TileKey) (ss : List Slice) → All (λ (l : SliceKey). key.slice ≢ l) (map (λ (s : Slice). s.key) ss) → IsApartFrom key (frame_tiles sides ss)
slices_apart sides key [] all = tt
slices_apart sides key (s ∷ ss) all =
    let keys = map (λ (r : Slice). r.key) ss in
    apart_both key (slice_tiles sides s) (frame_tiles sides ss)
    (slice_apart key s (tiles_of (grid_over sides (in_slice s.shown s.origin))) (All-head (λ (l : SliceKey). key.slice ≢ l) s.key keys all))
    (slices_apart sides key ss (All-tail (λ (l : SliceKey). key.slice ≢ l) s.key keys all))

-- the tiles of a slice before those of slices with other keys
before_slices : (sides : TileSides) (s : Slice) (ts : List GridTile) (ss : List Slice) → AreApart (shown_tiles s ts) → All (λ (l : SliceKey). s.key ≢ l) (map (λ (r : Slice). r.key) ss) → AreApart (frame_tiles sides ss)
    → AreApart (shown_tiles s ts ++ frame_tiles sides ss)
before_slices sides s [] ss own others rest = rest
before_slices sides s (t ∷ ts) ss own others rest = (
  apart_both (key_of s.key t) (shown_tiles s ts) (frame_tiles sides ss) own.0 (slices_apart sides (key_of s.key t) ss others),
  before_slices sides s ts ss own.1 others rest,
)

all_apart : (sides : TileSides) (ss : List Slice) → AllPairs (λ (k l : SliceKey). k ≢ l) (map (λ (s : Slice). s.key) ss) → AreApart (frame_tiles sides ss)
all_apart sides [] pairs = tt
all_apart sides (s ∷ ss) pairs =
    let keys = map (λ (r : Slice). r.key) ss in
    let grid = grid_over sides (in_slice s.shown s.origin) in
    before_slices sides s (tiles_of grid) ss (rows_apart s (tiles_of grid) (tiles_come_by_row grid))
    (pairs_first (λ (k l : SliceKey). k ≢ l) s.key keys pairs)
    (all_apart sides ss (pairs_rest (λ (k l : SliceKey). k ≢ l) s.key keys pairs))

pub tiles_are_apart : TilesAreApart
tiles_are_apart sides view slices are = all_apart sides slices are.keys
