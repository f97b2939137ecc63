-- Pixels change only through a window.
use Rattle.std.proofs.Common.{◌≡◌, ◌≢◌, ℕ, zero, suc, ◌+◌, ◌-◌, ◌≤◌, ◌<◌, ◌⊎◌, inl, inr, Bool, true, false, cond, ltb, if◌then◌else◌, List, [], ◌∷◌, length, take, Option, Some, None, option_map, ℤ, pos, ◌+ℤ◌, ◌<ℤ◌, ◌≤ℤ◌, refl, ap, sym, ◌∙◌, arith}
use Rattle.std.proofs.lemmas.Int.{ints}
use Rattle.std.proofs.lemmas.Map.{lookup-remove_entry}
use Rattle.blend_rules.specs.declared.plane.Plane.{Plane}
use Rattle.span_kernels.specs.PlanesModel.{PlanesModel, with_part, byte_at}
use Rattle.span_kernels.specs.Parts.{IsPartWritten}
use Rattle.span_kernels.proofs.Parts.{part_is_written}
use Rattle.wr_geom.specs.Bounds.{Bounds, Covers, width_of}
use Rattle.wr_geom.proofs.Points.{IsInside, inside}
use Rattle.wr_geom.specs.declared.keys.TileKey.{TileKey}
use Rattle.tile_store.specs.declared.tile.Tile.{Tile}
use Rattle.tile_store.specs.declared.window.Window.{Window}
use Rattle.tile_store.specs.Keys.{same_key}
use Rattle.tile_store.specs.Tiles.{TileList, HasRow, IsTile, tile_at, tile_byte, without, touched, changed_at, blank_tile, column_of, row_of}
use Rattle.tile_store.specs.StoreModel.{StoreModel, IsStore, LiesInItsTile}
use Rattle.tile_store.specs.Windows.{HasWindowRow, with_part_in, with_window_row}
use Rattle.tile_store.specs.Laws.{KeepsPixels, IsRowWritten, IsWindowWritten, TouchKeepsPixels, SwapKeepsPixels, PutKeepsPixels, RemoveKeepsPixels, PopKeepsPixels, WindowRowChangesAlone}
use Rattle.tile_store.proofs.Keys.{key_same, keys_equivalence, key_test}
use Rattle.tile_store.proofs.Listed.{at_changed, at_changed_other, at_touched, keys_changed, tile_in, store_changed}
use Rattle.tile_store.proofs.Backed.{with_note}
use Rattle.tile_store.proofs.Ready.{IsWithin, within, row_within, down_from, tile_written}

told_apart : (k q : TileKey) (b : Bool) → same_key k q ≡ b → k ≢ q → same_key k q ≡ false
told_apart k q true e other = absurd (other (key_same k q e))
told_apart k q false e other = e

module _ {R : Type 0} where
  some_same : (t u : Tile R) → Some t ≡ Some u → (u.rect ≡ t.rect) × (u.planes ≡ t.planes)
  some_same t u h = let same : t ≡ u = cc in (ap (λ (x : Tile R). x.rect) (sym same), ap (λ (x : Tile R). x.planes) (sym same))

  same_found : (old new : TileList R) → ((key : TileKey) → tile_at key new ≡ tile_at key old) → KeepsPixels old new
  same_found old new h key t u before after = some_same t u (sym before ∙ sym (h key) ∙ after)

  pub touch_keeps : TouchKeepsPixels R
  touch_keeps key tiles = same_found tiles (touched key tiles) (λ q. at_touched key q tiles)

  swap_by : (key : TileKey) (note : R) (tiles : TileList R) (q : TileKey) (t u : Tile R) (b : Bool) → same_key key q ≡ b
      → tile_at q tiles ≡ Some t → tile_at q (changed_at key (with_note note) tiles) ≡ Some u → (u.rect ≡ t.rect) × (u.planes ≡ t.planes)
  swap_by key note tiles q t u true e before after =
      let same : key ≡ q = key_same key q e in
      let found = sym (at_changed q (with_note note) tiles ∙ ap (option_map (with_note note)) before) ∙ (rw same at after) in
      some_same (record t { note = note }) u found
  swap_by key note tiles q t u false e before after = some_same t u (sym before ∙ sym (at_changed_other key q (with_note note) tiles e) ∙ after)

  pub swap_keeps : SwapKeepsPixels R
  swap_keeps key note tiles q t u before after = swap_by key note tiles q t u (same_key key q) refl before after

  put_by : (key : TileKey) (new : Tile R) (tiles : TileList R) → tile_at key tiles ≡ None → (q : TileKey) (t u : Tile R) (b : Bool) → same_key q key ≡ b
      → tile_at q tiles ≡ Some t → tile_at q ((key, new) ∷ tiles) ≡ Some u → (u.rect ≡ t.rect) × (u.planes ≡ t.planes)
  put_by key new tiles none q t u true e before after = let same : q ≡ key = key_same q key e in let h : None ≡ Some t = sym none ∙ (rw same at before) in absurd cc
  put_by key new tiles none q t u false e before after = some_same t u (sym before ∙ (rw e at after))

  pub put_keeps : PutKeepsPixels R
  put_keeps key rect note tiles none q t u = put_by key (blank_tile rect note) tiles none q t u (same_key q key) refl

  remove_by : (key q : TileKey) (tiles : TileList R) (t u : Tile R) (b : Bool) → same_key key q ≡ b → tile_at q (without key tiles) ≡ cond b None (tile_at q tiles)
      → tile_at q tiles ≡ Some t → tile_at q (without key tiles) ≡ Some u → (u.rect ≡ t.rect) × (u.planes ≡ t.planes)
  remove_by key q tiles t u true e found before after = let h : None ≡ Some u = sym found ∙ after in absurd cc
  remove_by key q tiles t u false e found before after = some_same t u (sym before ∙ sym found ∙ after)

  pub remove_keeps : RemoveKeepsPixels R
  remove_keeps key tiles own q t u = remove_by key q tiles t u (same_key key q) refl (lookup-remove_entry keys_equivalence (same_key key) (key_test key) q tiles own)

  -- what is found among the first is found among all
  in_first : (n : ℕ) (q : TileKey) (tiles : TileList R) (u : Tile R) → tile_at q (take n tiles) ≡ Some u → tile_at q tiles ≡ Some u
  in_first zero q tiles u h = cc
  in_first (suc n) q [] u h = h
  in_first (suc n) q (e ∷ es) u h = (elim (same_key q e.0) as (λ y. same_key q e.0 ≡ y → tile_at q (e ∷ es) ≡ Some u) [
    | true ↦ λ y. rw y (rw y at h)
    | false ↦ λ y. rw y (in_first n q es u (rw y at h))
  ]) refl

  pop_by : (budget : ℕ) (tiles : TileList R) (b : Bool) → ltb budget (length tiles) ≡ b → KeepsPixels tiles (if b then take (length tiles - 1) tiles else tiles)
  pop_by budget tiles true e q t u before after = some_same t u (sym before ∙ in_first (length tiles - 1) q tiles u after)
  pop_by budget tiles false e q t u before after = some_same t u (sym before ∙ after)

  pub pop_keeps : PopKeepsPixels R
  pop_keeps budget tiles = pop_by budget tiles (ltb budget (length tiles)) refl

  -- ---- a row of the window

  abbrev written : Bounds → Plane → ℤ → List ℕ → Tile R → PlanesModel
  written rect p y bytes t = with_part p (row_of t.rect y) (column_of t.rect rect.x0) bytes t.planes

  part : (t : Tile R) (rect : Bounds) (p : Plane) (y : ℤ) (bytes : List ℕ) → IsTile t → IsWithin t.rect rect → HasRow rect y → rect.x0 <ℤ rect.x1 → length bytes ≡ width_of rect
      → IsPartWritten t.planes (written rect p y bytes t) p (row_of t.rect y) (column_of t.rect rect.x0) bytes
  part t rect p y bytes i w row across long =
      let outer = row_within t.rect rect y w row in
      part_is_written t.planes p (row_of t.rect y) (column_of t.rect rect.x0) bytes i.whole
      (rw i.height (let a = outer.top in let b = outer.bottom in omega (arith, ints)))
      (rw (i.width, long) (let a = w.left in let b = w.right in omega (arith, ints)))

  pub row_written : (t : Tile R) (rect : Bounds) (p : Plane) (y : ℤ) (bytes : List ℕ) → IsTile t → IsWithin t.rect rect → HasRow rect y → rect.x0 <ℤ rect.x1 → length bytes ≡ width_of rect
      → IsRowWritten t (with_part_in rect p y bytes t) rect p y bytes
  row_written t rect p y bytes i w row across long =
      let done = part t rect p y bytes i w row across long in
      record {
        same_rect = refl;
        same_note = refl;
        inside = λ k h. let a = w.left in let at : column_of t.rect (rect.x0 +ℤ pos k) ≡ column_of t.rect rect.x0 + k = omega (arith, ints) in
            ap (λ (c : ℕ). byte_at p (written rect p y bytes t) c (row_of t.rect y)) at ∙ done.inside k h;
        outside = λ x z there apart. same_row x z (inside t.rect x z there) apart done;
        other_planes = done.others;
      }
    where
      elsewhere : (x z : ℤ) → IsInside t.rect x z → (z ≢ y) ⊎ (x <ℤ rect.x0) ⊎ (rect.x1 ≤ℤ x)
          → (row_of t.rect z ≢ row_of t.rect y) ⊎ (column_of t.rect x < column_of t.rect rect.x0) ⊎ (column_of t.rect rect.x0 + length bytes ≤ column_of t.rect x)
      elsewhere x z there (inl rows) = let a = there.top in let b = w.top in let c = row.top in inl (λ e. rows (omega (arith, ints, e, a, b, c)))
      elsewhere x z there (inr (inl left)) = let a = there.left in inr (inl (omega (arith, ints)))
      elsewhere x z there (inr (inr right)) = let a = there.left in let b = w.left in inr (inr (rw long (omega (arith, ints))))

      same_row : (x z : ℤ) → IsInside t.rect x z → (z ≢ y) ⊎ (x <ℤ rect.x0) ⊎ (rect.x1 ≤ℤ x) → IsPartWritten t.planes (written rect p y bytes t) p (row_of t.rect y) (column_of t.rect rect.x0) bytes
          → tile_byte p (with_part_in rect p y bytes t) x z ≡ tile_byte p t x z
      same_row x z there apart done = done.outside (column_of t.rect x) (row_of t.rect z) (rw i.width (let a = there.left in let b = there.right in omega (arith, ints))) (elsewhere x z there apart)

  window_tile : (w : Window) (es : TileList R) → LiesInItsTile (Some w) es → (t : Tile R) → tile_at w.key es ≡ Some t → Covers t.rect w.rect
  window_tile w es h t e = rw e at h

  window_written : (store : StoreModel R) (window : Window) (p : Plane) (y : ℤ) (bytes : List ℕ) → IsStore store → LiesInItsTile (Some window) store.tiles → HasWindowRow (Some window) y → length bytes ≡ width_of window.rect
      → IsWindowWritten store (record store { tiles = changed_at window.key (with_part_in window.rect p y bytes) store.tiles }) window p y bytes
  window_written store window p y bytes s lies row long = record {
    store = store_changed window.key (with_part_in window.rect p y bytes) (λ t. refl) (tile_written window.rect p y bytes) store s;
    same_window = refl;
    same_count = refl;
    same_keys = keys_changed window.key (with_part_in window.rect p y bytes) store.tiles;
    others = λ key other. at_changed_other window.key key (with_part_in window.rect p y bytes) store.tiles (told_apart window.key key (same_key window.key key) refl (λ e. other (sym e)));
    tile = λ before found. (
      with_part_in window.rect p y bytes before,
      at_changed window.key (with_part_in window.rect p y bytes) store.tiles ∙ ap (option_map (with_part_in window.rect p y bytes)) found,
      row_written before window.rect p y bytes (tile_in window.key store.tiles before s.tiles found)
          (within before.rect window.rect (window_tile window store.tiles lies before found) row.0 (down_from window.rect y row.1)) row.1 row.0 long,
    );
  }

  window_by : (tiles : TileList R) (open_is : Option Window) (opened : ℕ) (window : Window) (p : Plane) (y : ℤ) (bytes : List ℕ) → IsStore (record { tiles = tiles; window = open_is; opened = opened }) → open_is ≡ Some window
      → HasWindowRow (Some window) y → length bytes ≡ width_of window.rect
      → IsWindowWritten (record { tiles = tiles; window = open_is; opened = opened }) (with_window_row p y bytes (record { tiles = tiles; window = open_is; opened = opened })) window p y bytes
  window_by tiles None opened window p y bytes s is row long = cc
  window_by tiles (Some w) opened window p y bytes s is row long =
      let same : w ≡ window = cc in
      let row' : HasWindowRow (Some w) y = rw same row in
      let long' : length bytes ≡ width_of w.rect = rw same long in
      rw (← same) (window_written (record { tiles = tiles; window = Some w; opened = opened }) w p y bytes s s.window row' long')

  pub window_row_changes_alone : WindowRowChangesAlone R
  window_row_changes_alone store window p y bytes s is row long = window_by store.tiles store.window store.opened window p y bytes s is row long
