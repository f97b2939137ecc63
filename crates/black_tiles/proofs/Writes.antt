-- Black tiles, kept and written.
use Rattle.std.proofs.Common.{◌≡◌, ℕ, ◌<◌, ◌≤◌, ◌*◌, ◌^◌, ℤ, ◌<ℤ◌, Bool, true, false, cond, IsTrue, List, ◌∷◌, Option, Some, None, option_map, subst, sym, ap, refl, ◌∙◌, arith}
use Rattle.std.specs.Prelude.{IfSome}
use Rattle.wr_geom.specs.Bounds.{Bounds, holds, width_of, height_of}
use Rattle.wr_geom.specs.declared.keys.TileKey.{TileKey}
use Rattle.blend_rules.specs.declared.plane.Plane.TheVariants.{A}
use Rattle.span_kernels.specs.PlanesModel.{index_of}
use Rattle.tile_grid.specs.declared.tile.TileSides.{TileSides}
use Rattle.tile_grid.specs.Tiles.{tile_rect}
use Rattle.tile_store.specs.declared.tile.Tile.{Tile}
use Rattle.tile_store.specs.declared.window.Window.{Window}
use Rattle.tile_store.specs.Keys.{same_key}
use Rattle.tile_store.specs.StoreModel.{StoreModel}
use Rattle.tile_store.specs.Tiles.{HasRow, TileList, blank_tile, changed_at, tile_at, column_of, row_of}
use Rattle.tile_store.specs.Windows.{HasWindowRow, with_part_in, with_window_row}
use Rattle.tile_store.proofs.Keys.{key_same}
use Rattle.tile_store.proofs.Listed.{at_changed, at_changed_other}
use Rattle.tile_compositor.specs.Composition.{CanAllBeShown, CanBeShown}
use Rattle.black_tiles.specs.Black.{AreBlack, IsBlack, IsOpenOn}
use Rattle.black_tiles.proofs.Bytes.{AreBytes, overwritten_bytes, repeated_zero}

module _ {T : Type 0} (sides : TileSides) where
  -- a row of alphas leaves a tile black
  black_row : (key : TileKey) (rect : Bounds) (y : ℤ) (bytes : List ℕ) (tile : Tile T) → AreBytes bytes → IsBlack sides key tile → IsBlack sides key (with_part_in rect A y bytes tile)
  black_row key rect y bytes tile b h = record {
    rect = h.rect;
    blue = h.blue;
    green = h.green;
    red = h.red;
    alpha = overwritten_bytes tile.planes.alpha _ bytes h.alpha b;
  }

  in_option : (key : TileKey) (f : Tile T → Tile T) → ((t : Tile T) → IsBlack sides key t → IsBlack sides key (f t)) → (o : Option (Tile T)) → IfSome o (λ t. IsBlack sides key t) → IfSome (option_map f o) (λ t. IsBlack sides key t)
  in_option key f keeps None h = h
  in_option key f keeps (Some t) h = keeps t h

  changed_by : (key : TileKey) (f : Tile T → Tile T) → ((q : TileKey) (t : Tile T) → IsBlack sides q t → IsBlack sides q (f t)) → (tiles : TileList T) → AreBlack sides tiles
      → (q : TileKey) (b : Bool) → same_key key q ≡ b → IfSome (tile_at q (changed_at key f tiles)) (λ t. IsBlack sides q t)
  changed_by key f keeps tiles black q true e =
      let same : key ≡ q = key_same key q e in
      subst (λ (k : TileKey). IfSome (tile_at k (changed_at key f tiles)) (λ t. IsBlack sides k t)) same
      (subst (λ (o : Option (Tile T)). IfSome o (λ t. IsBlack sides key t)) (sym (at_changed key f tiles)) (in_option key f (keeps key) (tile_at key tiles) (black key)))
  changed_by key f keeps tiles black q false e = subst (λ (o : Option (Tile T)). IfSome o (λ t. IsBlack sides q t)) (sym (at_changed_other key q f tiles e)) (black q)

  written_by : (tiles : TileList T) (window : Option Window) (opened : ℕ) (y : ℤ) (bytes : List ℕ) → AreBytes bytes → AreBlack sides tiles
      → AreBlack sides (with_window_row A y bytes (record { tiles = tiles; window = window; opened = opened })).tiles
  written_by tiles None opened y bytes b black q = black q
  written_by tiles (Some w) opened y bytes b black q = changed_by w.key (with_part_in w.rect A y bytes) (λ k t. black_row k w.rect y bytes t b) tiles black q (same_key w.key q) refl

  -- a row of alphas in the window leaves tiles black
  pub written_black : (store : StoreModel T) (y : ℤ) (bytes : List ℕ) → AreBytes bytes → AreBlack sides store.tiles → AreBlack sides (with_window_row A y bytes store).tiles
  written_black store y bytes b black = written_by store.tiles store.window store.opened y bytes b black

  -- ---- new tiles

  pub blank_is_black : (key : TileKey) (rect : Bounds) (note : T) → rect ≡ tile_rect sides key.col key.row → IsBlack sides key (blank_tile rect note)
  blank_is_black key rect note is = record {
    rect = is;
    blue = repeated_zero (height_of rect * width_of rect);
    green = repeated_zero (height_of rect * width_of rect);
    red = repeated_zero (height_of rect * width_of rect);
    alpha = λ k. let e = repeated_zero (height_of rect * width_of rect) k in omega (arith, e);
  }

  put_by : (key : TileKey) (tile : Tile T) (tiles : TileList T) → IsBlack sides key tile → AreBlack sides tiles → (q : TileKey) (b : Bool) → same_key q key ≡ b → IfSome (cond b (Some tile) (tile_at q tiles)) (λ t. IsBlack sides q t)
  put_by key tile tiles h black q true e = subst (λ (k : TileKey). IsBlack sides k tile) (sym (key_same q key e)) h
  put_by key tile tiles h black q false e = black q

  pub put_black : (key : TileKey) (tile : Tile T) (tiles : TileList T) → IsBlack sides key tile → AreBlack sides tiles → AreBlack sides ((key, tile) ∷ tiles)
  put_black key tile tiles h black q = put_by key tile tiles h black q (same_key q key) refl

  -- ---- black tiles can be shown

  shown_by : (key : TileKey) (o : Option (Tile T)) → IfSome o (λ t. IsBlack sides key t) → IfSome o (λ t. CanBeShown sides key t)
  shown_by key None h = h
  shown_by key (Some t) h = record {
    rect = h.rect;
    pixels = λ x y i.
        let k : ℕ = index_of t.planes (column_of t.rect x) (row_of t.rect y) in
        let b = h.blue k in let g = h.green k in let r = h.red k in
        record { premultiplied = record { blue = omega (arith, b); green = omega (arith, g); red = omega (arith, r) }; byte = h.alpha k };
  }

  pub black_can_be_shown : (tiles : TileList T) → AreBlack sides tiles → CanAllBeShown sides tiles
  black_can_be_shown tiles black key = shown_by key (tile_at key tiles) (black key)

-- ---- rows of the open window

pub row_of_window : (w : Option Window) (rect : Bounds) (y : ℤ) → IsOpenOn rect w → HasRow rect y → HasWindowRow w y
row_of_window None rect y h row = let e = h.open_is in cc
row_of_window (Some v) rect y h row = let e = h.open_is in let same : v.rect ≡ rect = cc in rw same (h.across, row)
