-- Tiles that show what is picked for them compose to what the slices paint.
use Rattle.std.proofs.Common.{◌≡◌, ◌<◌, ℕ, zero, suc, Bool, true, false, List, [], ◌∷◌, ◌++◌, length, get_or, All, Contains, Option, Some, None, IfSome, IsTrue, option_map, ℤ, ◌-ℤ◌, if◌then◌else◌, refl, sym, ap, subst, ◌∙◌, arith}
use Rattle.std.specs.Option.{option_map_or}
use Rattle.std.proofs.lemmas.List.Elements.{All-head, All-tail}
use Rattle.wr_geom.specs.Bounds.{Bounds, holds}
use Rattle.wr_geom.specs.declared.keys.TileKey.{TileKey}
use Rattle.blend_rules.specs.Colour.{blended, clear}
use Rattle.blend_rules.specs.declared.colour.Px.{Px}
use Rattle.blend_rules.specs.declared.mode.Mode.TheVariants.{Normal}
use Rattle.image_store.specs.StoreModel.{StoreModel, IsStore}
use Rattle.primitives.specs.Stacks.{value_at}
use Rattle.primitives.specs.declared.entry.Entry.{Entry}
use Rattle.picture_slices.specs.Facts.{IsSlice}
use Rattle.picture_slices.specs.Values.{slice_value, slices_over}
use Rattle.picture_slices.specs.declared.slice.Slice.{Slice}
use Rattle.tile_grid.specs.Grids.{grid_over, in_slice, tile_of, tiles_of}
use Rattle.tile_grid.specs.Tiles.{AreTileSides, tile, tile_rect}
use Rattle.tile_grid.specs.declared.tile.GridTile.{GridTile}
use Rattle.tile_grid.specs.declared.tile.TileSides.{TileSides}
use Rattle.tile_grid.proofs.Grids.{tiles_that_meet_are_listed}
use Rattle.tile_grid.proofs.Meetings.{meets_points}
use Rattle.tile_records.specs.Picks.{picked}
use Rattle.tile_records.specs.declared.record.TileRecord.{TileRecord}
use Rattle.tile_records.proofs.Picking.{picked_has_values}
use Rattle.tile_store.specs.Tiles.{tile_at}
use Rattle.tile_store.specs.declared.tile.Tile.{Tile}
use Rattle.tile_compositor.specs.Composition.{composed, key_at, placed_colour, tile_colour, tiles_colour}
use Rattle.tile_compositor.proofs.Moves.{slice_holds}
use Rattle.tile_compositor.proofs.Tiles.{tile_holds}
use Rattle.kept_tiles.specs.Showing.{AreShown, ShowsEntries}
use Rattle.kept_tiles.specs.Steps.{ArePlaced}
use Rattle.kept_tiles.specs.Tiles.{KeptTile, KeptTiles, KeptModel, kept_at, kept_of, valued}
use Rattle.kept_tiles.specs.Work.{Shown, frame_tiles, shown_tile, shown_tiles, slice_tiles}
use Rattle.kept_tiles.proofs.Lists.{valued_at}
use Rattle.shown_frames.specs.Laws.{TilesPaintSlices}
use Rattle.shown_frames.specs.Placing.{all_placed, placed_of}

-- ---- lists of tiles that are shown

shown_first : (store : StoreModel) (tiles : KeptTiles) (vs ws : List Shown) → AreShown store tiles (vs ++ ws) → AreShown store tiles vs
shown_first store tiles [] ws h = tt
shown_first store tiles (v ∷ vs) ws h = (h.0, shown_first store tiles vs ws h.1)

shown_rest : (store : StoreModel) (tiles : KeptTiles) (vs ws : List Shown) → AreShown store tiles (vs ++ ws) → AreShown store tiles ws
shown_rest store tiles [] ws h = h
shown_rest store tiles (v ∷ vs) ws h = shown_rest store tiles vs ws h.1

-- one of a slice's tiles shows what is picked for it
shown_at : (store : StoreModel) (tiles : KeptTiles) (s : Slice) (ts : List GridTile) (t : GridTile) (i : ℕ) → AreShown store tiles (shown_tiles s ts) → i < length ts → get_or ts i t ≡ t
    → ShowsEntries store (shown_tile s t).entries (kept_at (shown_tile s t).key tiles)
shown_at store tiles s [] t i h less e = absurd (omega (arith, less))
shown_at store tiles s (u ∷ ts) t zero h less e = subst (λ (v : GridTile). ShowsEntries store (shown_tile s v).entries (kept_at (shown_tile s v).key tiles)) e h.0
shown_at store tiles s (u ∷ ts) t (suc i) h less e = shown_at store tiles s ts t i h.1 (omega (arith, less)) e

shown_here : (store : StoreModel) (tiles : KeptTiles) (s : Slice) (ts : List GridTile) (t : GridTile) → AreShown store tiles (shown_tiles s ts) → Contains ts t
    → ShowsEntries store (shown_tile s t).entries (kept_at (shown_tile s t).key tiles)
shown_here store tiles s ts t h (i, less, e) = shown_at store tiles s ts t i h less e

module _ (sides : TileSides) (view : Bounds) (store : StoreModel) (k : KeptModel) (are : AreTileSides sides) (is_store : IsStore store) (placed : ArePlaced sides (kept_of k)) where
  -- ---- one tile

  -- what is kept at a key has there the value of the entries that it shows, and is clear where nothing is kept
  colour_by : (key : TileKey) (es : List Entry) (u v : ℤ) (o : Option (Tile TileRecord)) → IsTrue (holds (tile_rect sides key.col key.row) u v)
      → IfSome (option_map (valued k.interner) o) (λ t. t.rect ≡ tile_rect sides key.col key.row) → ShowsEntries store es (option_map (valued k.interner) o)
      → option_map_or (λ t. tile_colour t u v) o clear ≡ value_at es store u v
  colour_by key es u v None here p shows = ap (λ (l : List Entry). value_at l store u v) (sym shows)
  colour_by key es u v (Some t) here p shows = shows u v (subst (λ (b : Bounds). IsTrue (holds b u v)) (sym p) here)

  colour_at : (key : TileKey) (es : List Entry) (u v : ℤ) → IsTrue (holds (tile_rect sides key.col key.row) u v) → ShowsEntries store es (kept_at key (kept_of k))
      → option_map_or (λ t. tile_colour t u v) (tile_at key k.store.tiles) clear ≡ value_at es store u v
  colour_at key es u v here shows =
      let e = valued_at k.interner key k.store.tiles in
      colour_by key es u v (tile_at key k.store.tiles) here
      (subst (λ (o : Option KeptTile). IfSome o (λ t. t.rect ≡ tile_rect sides key.col key.row)) e (placed key))
      (subst (ShowsEntries store es) e shows)

  -- ---- one slice

  -- at a point that a slice shows, in the slice's coordinates
  inside : (s : Slice) (u v : ℤ) → IsSlice view s → AreShown store (kept_of k) (slice_tiles sides s) → IsTrue (holds (in_slice s.shown s.origin) u v)
      → tiles_colour sides k.store.tiles s.key u v ≡ value_at s.entries store u v
  inside s u v is shown here =
      let col = tile_of sides.width u in
      let row = tile_of sides.height v in
      let rect = tile_rect sides col row in
      let part = in_slice s.shown s.origin in
      let holds_it : IsTrue (holds rect u v) = tile_holds sides u v are in
      let listed = (tiles_that_meet_are_listed sides part col row are).1 ((meets_points rect part).1 (u, v, holds_it, here)) in
      let shows = shown_here store (kept_of k) s (tiles_of (grid_over sides part)) (tile sides col row) shown listed in
      colour_at (key_at sides s.key u v) (picked rect s.entries) u v holds_it shows
      ∙ picked_has_values store s.entries rect u v is_store is.entries is.balanced holds_it

  slice_by : (s : Slice) (x y : ℤ) (b : Bool) → IsSlice view s → AreShown store (kept_of k) (slice_tiles sides s) → holds s.shown x y ≡ b
      → (if b then tiles_colour sides k.store.tiles s.key (x -ℤ s.origin.x) (y -ℤ s.origin.y) else clear) ≡ (if b then value_at s.entries store (x -ℤ s.origin.x) (y -ℤ s.origin.y) else clear)
  slice_by s x y true is shown e = inside s (x -ℤ s.origin.x) (y -ℤ s.origin.y) is shown (slice_holds s.shown s.origin x y ∙ e)
  slice_by s x y false is shown e = refl

  slice_colour : (s : Slice) (x y : ℤ) → IsSlice view s → AreShown store (kept_of k) (slice_tiles sides s) → placed_colour sides k.store.tiles (placed_of s) x y ≡ slice_value s store x y
  slice_colour s x y is shown = slice_by s x y (holds s.shown x y) is shown refl

  -- ---- all slices

  pub frame_colour : (slices : List Slice) (x y : ℤ) (below : Px) → All (IsSlice view) slices → AreShown store (kept_of k) (frame_tiles sides slices)
      → composed sides k.store.tiles (all_placed slices) x y below ≡ slices_over store x y slices below
  frame_colour [] x y below are_slices shown = refl
  frame_colour (s ∷ ss) x y below are_slices shown =
      let first = slice_colour s x y (All-head (IsSlice view) s ss are_slices) (shown_first store (kept_of k) (slice_tiles sides s) (frame_tiles sides ss) shown) in
      frame_colour ss x y (blended Normal (placed_colour sides k.store.tiles (placed_of s) x y) below) (All-tail (IsSlice view) s ss are_slices) (shown_rest store (kept_of k) (slice_tiles sides s) (frame_tiles sides ss) shown)
      ∙ ap (λ (c : Px). slices_over store x y ss (blended Normal c below)) first

pub tiles_paint_slices : TilesPaintSlices
tiles_paint_slices sides view store k slices x y below are is_store are_slices shown placed = frame_colour sides view store k are is_store placed slices x y below are_slices.each shown
