-- Lists of kept tiles: what is found in them, and what a change leaves.
use Rattle.std.proofs.Common.{◌≡◌, ℕ, zero, suc, ◌≤◌, Bool, true, false, [], ◌∷◌, length, length-take, take, Option, Some, None, option_map, refl, ap, sym, ◌∙◌, true≢false, arith}
use Rattle.std.specs.Option.{option_map_or, IfSome}
use Rattle.std.specs.Map.{lookup_entry, set_value, keys_of}
use Rattle.lru.specs.LruCache.{promoted}
use Rattle.wr_geom.specs.declared.keys.TileKey.{TileKey}
use Rattle.tile_store.specs.declared.tile.Tile.{Tile}
use Rattle.tile_store.specs.declared.window.Window.{Window}
use Rattle.tile_store.specs.Keys.{same_key}
use Rattle.wr_geom.specs.Bounds.{Bounds}
use Rattle.tile_store.specs.StoreModel.{StoreModel, IsStore, LiesInTile, LiesInItsTile}
use Rattle.tile_store.specs.Tiles.{TileList, IsTile, AreTiles, tile_at, without, touched, changed_at}
use Rattle.tile_store.proofs.Keys.{key_same, key_is, key_from, key_turned}

-- two keys that are told apart are not found at one place
apart : (k q : TileKey) (e : TileKey) → same_key k q ≡ false → same_key k e ≡ true → same_key q e ≡ false
apart k q e h y = elim (same_key q e) as (λ z. same_key q e ≡ z → same_key q e ≡ false) [
  | true ↦ λ z. absurd (true≢false (sym (key_from k q (key_same k e y ∙ sym (key_same q e z))) ∙ h))
  | false ↦ λ z. z
] refl

module _ {R : Type 0} where
  -- ---- a tile that is changed

  module _ (key : TileKey) where
    pub set_is_changed : (change : Tile R → Tile R) (es : TileList R) (t : Tile R) → tile_at key es ≡ Some t → set_value (same_key key) es (change t) ≡ changed_at key change es
    set_is_changed change [] t h = refl
    set_is_changed change (e ∷ es) t h = (elim (same_key key e.0) as (λ y. same_key key e.0 ≡ y → set_value (same_key key) (e ∷ es) (change t) ≡ changed_at key change (e ∷ es)) [
      | true ↦ λ y. let h' = rw y at h in let same : e.1 ≡ t = cc in rw (y, same) refl
      | false ↦ λ y. rw y (ap (λ l. e ∷ l) (set_is_changed change es t (rw y at h)))
    ]) refl

    pub changed_ext : (f g : Tile R → Tile R) (es : TileList R) (t : Tile R) → tile_at key es ≡ Some t → f t ≡ g t → changed_at key f es ≡ changed_at key g es
    changed_ext f g [] t h k = refl
    changed_ext f g (e ∷ es) t h k = (elim (same_key key e.0) as (λ y. same_key key e.0 ≡ y → changed_at key f (e ∷ es) ≡ changed_at key g (e ∷ es)) [
      | true ↦ λ y. let h' = rw y at h in let same : e.1 ≡ t = cc in rw (y, same, k) refl
      | false ↦ λ y. rw y (ap (λ l. e ∷ l) (changed_ext f g es t (rw y at h) k))
    ]) refl

    pub changed_id : (es : TileList R) → changed_at key (λ t. t) es ≡ es
    changed_id [] = refl
    changed_id (e ∷ es) = (elim (same_key key e.0) as (λ y. same_key key e.0 ≡ y → changed_at key (λ t. t) (e ∷ es) ≡ e ∷ es) [
      | true ↦ λ y. rw y refl
      | false ↦ λ y. rw y (ap (λ l. e ∷ l) (changed_id es))
    ]) refl

    pub changed_twice : (f g : Tile R → Tile R) (es : TileList R) → changed_at key f (changed_at key g es) ≡ changed_at key (λ t. f (g t)) es
    changed_twice f g [] = refl
    changed_twice f g (e ∷ es) = (elim (same_key key e.0) as (λ y. same_key key e.0 ≡ y → changed_at key f (changed_at key g (e ∷ es)) ≡ changed_at key (λ t. f (g t)) (e ∷ es)) [
      | true ↦ λ y. rw (y, y) refl
      | false ↦ λ y. rw (y, y) (ap (λ l. e ∷ l) (changed_twice f g es))
    ]) refl

    pub at_changed : (f : Tile R → Tile R) (es : TileList R) → tile_at key (changed_at key f es) ≡ option_map f (tile_at key es)
    at_changed f [] = refl
    at_changed f (e ∷ es) = (elim (same_key key e.0) as (λ y. same_key key e.0 ≡ y → tile_at key (changed_at key f (e ∷ es)) ≡ option_map f (tile_at key (e ∷ es))) [
      | true ↦ λ y. rw (y, y) refl
      | false ↦ λ y. rw (y, y) (at_changed f es)
    ]) refl

    pub length_changed : (f : Tile R → Tile R) (es : TileList R) → length (changed_at key f es) ≡ length es
    length_changed f [] = refl
    length_changed f (e ∷ es) = (elim (same_key key e.0) as (λ y. same_key key e.0 ≡ y → length (changed_at key f (e ∷ es)) ≡ length (e ∷ es)) [
      | true ↦ λ y. rw y refl
      | false ↦ λ y. rw y (ap suc (length_changed f es))
    ]) refl

    pub keys_changed : (f : Tile R → Tile R) (es : TileList R) → keys_of (changed_at key f es) ≡ keys_of es
    keys_changed f [] = refl
    keys_changed f (e ∷ es) = (elim (same_key key e.0) as (λ y. same_key key e.0 ≡ y → keys_of (changed_at key f (e ∷ es)) ≡ keys_of (e ∷ es)) [
      | true ↦ λ y. rw y refl
      | false ↦ λ y. rw y (ap (λ l. e.0 ∷ l) (keys_changed f es))
    ]) refl

  pub at_changed_other : (k q : TileKey) (f : Tile R → Tile R) (es : TileList R) → same_key k q ≡ false → tile_at q (changed_at k f es) ≡ tile_at q es
  at_changed_other k q f [] h = refl
  at_changed_other k q f (e ∷ es) h = (elim (same_key k e.0) as (λ y. same_key k e.0 ≡ y → tile_at q (changed_at k f (e ∷ es)) ≡ tile_at q (e ∷ es)) [
    | true ↦ λ y. let z = apart k q e.0 h y in rw (y, z) refl
    | false ↦ λ y. rw y (elim (same_key q e.0) as (λ z. same_key q e.0 ≡ z → tile_at q (e ∷ changed_at k f es) ≡ tile_at q (e ∷ es)) [
      | true ↦ λ z. rw z refl
      | false ↦ λ z. rw z (at_changed_other k q f es h)
    ] refl)
  ]) refl

  pub changes_commute : (j k : TileKey) (f g : Tile R → Tile R) → ((t : Tile R) → f (g t) ≡ g (f t)) → (es : TileList R) → changed_at j f (changed_at k g es) ≡ changed_at k g (changed_at j f es)
  changes_commute j k f g h [] = refl
  changes_commute j k f g h (e ∷ es) = (elim (same_key j e.0) as (λ y. same_key j e.0 ≡ y → changed_at j f (changed_at k g (e ∷ es)) ≡ changed_at k g (changed_at j f (e ∷ es))) [
    | true ↦ λ y. (elim (same_key k e.0) as (λ z. same_key k e.0 ≡ z → changed_at j f (changed_at k g (e ∷ es)) ≡ changed_at k g (changed_at j f (e ∷ es))) [
      | true ↦ λ z. rw (z, y, z, h e.1) refl
      | false ↦ λ z. rw (z, y, z) refl
    ]) refl
    | false ↦ λ y. (elim (same_key k e.0) as (λ z. same_key k e.0 ≡ z → changed_at j f (changed_at k g (e ∷ es)) ≡ changed_at k g (changed_at j f (e ∷ es))) [
      | true ↦ λ z. rw (z, y, z) refl
      | false ↦ λ z. rw (z, y, z) (ap (λ l. e ∷ l) (changes_commute j k f g h es))
    ]) refl
  ]) refl

  -- ---- a tile that goes first

  pub promoted_is_touched : (key : TileKey) (es : TileList R) → promoted (same_key key) es ≡ touched key es
  promoted_is_touched key es = from es es (without key es)
    where
      from : (es all rest : TileList R) → option_map_or (λ e. e ∷ rest) (lookup_entry (same_key key) es) all ≡ option_map_or (λ t. (key, t) ∷ rest) (tile_at key es) all
      from [] all rest = refl
      from (e ∷ es) all rest = (elim (same_key key e.0) as (λ y. same_key key e.0 ≡ y → option_map_or (λ e. e ∷ rest) (lookup_entry (same_key key) (e ∷ es)) all ≡ option_map_or (λ t. (key, t) ∷ rest) (tile_at key (e ∷ es)) all) [
        | true ↦ λ y. rw y (ap (λ (k : TileKey). (k, e.1) ∷ rest) (sym (key_same key e.0 y)))
        | false ↦ λ y. rw y (from es all rest)
      ]) refl

  pub without_changed : (key : TileKey) (f : Tile R → Tile R) (es : TileList R) → without key (changed_at key f es) ≡ without key es
  without_changed key f [] = refl
  without_changed key f (e ∷ es) = (elim (same_key key e.0) as (λ y. same_key key e.0 ≡ y → without key (changed_at key f (e ∷ es)) ≡ without key (e ∷ es)) [
    | true ↦ λ y. rw (y, y) refl
    | false ↦ λ y. rw (y, y) (ap (λ l. e ∷ l) (without_changed key f es))
  ]) refl

  pub without_changed_other : (key k : TileKey) (f : Tile R → Tile R) (es : TileList R) → same_key k key ≡ false → without key (changed_at k f es) ≡ changed_at k f (without key es)
  without_changed_other key k f [] h = refl
  without_changed_other key k f (e ∷ es) h = (elim (same_key k e.0) as (λ y. same_key k e.0 ≡ y → without key (changed_at k f (e ∷ es)) ≡ changed_at k f (without key (e ∷ es))) [
    | true ↦ λ y. let z = apart k key e.0 h y in rw (y, z, y) refl
    | false ↦ λ y. (elim (same_key key e.0) as (λ z. same_key key e.0 ≡ z → without key (changed_at k f (e ∷ es)) ≡ changed_at k f (without key (e ∷ es))) [
      | true ↦ λ z. rw (y, z) refl
      | false ↦ λ z. rw (y, z, y) (ap (λ l. e ∷ l) (without_changed_other key k f es h))
    ]) refl
  ]) refl

  touched_by : (key k : TileKey) (f : Tile R → Tile R) (es : TileList R) (o : Option (Tile R)) (b : Bool) → tile_at key es ≡ o → same_key k key ≡ b → touched key (changed_at k f es) ≡ changed_at k f (touched key es)
  touched_by key k f es o true h e =
      let same : k ≡ key = key_same k key e in
      rw same (of_same o h)
    where
      of_same : (o : Option (Tile R)) → tile_at key es ≡ o → touched key (changed_at key f es) ≡ changed_at key f (touched key es)
      of_same None h = rw (at_changed key f es, h) refl
      of_same (Some t) h = rw (at_changed key f es, h, key_is key, without_changed key f es) refl
  touched_by key k f es None false h e = rw (at_changed_other k key f es e, h) refl
  touched_by key k f es (Some t) false h e = rw (at_changed_other k key f es e, h, e, without_changed_other key k f es e) refl

  pub touched_changed : (key k : TileKey) (f : Tile R → Tile R) (es : TileList R) → touched key (changed_at k f es) ≡ changed_at k f (touched key es)
  touched_changed key k f es = touched_by key k f es (tile_at key es) (same_key k key) refl refl

  pub at_without_other : (key q : TileKey) (es : TileList R) → same_key key q ≡ false → tile_at q (without key es) ≡ tile_at q es
  at_without_other key q [] h = refl
  at_without_other key q (e ∷ es) h = (elim (same_key key e.0) as (λ y. same_key key e.0 ≡ y → tile_at q (without key (e ∷ es)) ≡ tile_at q (e ∷ es)) [
    | true ↦ λ y. let z = apart key q e.0 h y in rw (y, z) refl
    | false ↦ λ y. rw y (elim (same_key q e.0) as (λ z. same_key q e.0 ≡ z → tile_at q (e ∷ without key es) ≡ tile_at q (e ∷ es)) [
      | true ↦ λ z. rw z refl
      | false ↦ λ z. rw z (at_without_other key q es h)
    ] refl)
  ]) refl

  at_touched_by : (key q : TileKey) (es : TileList R) (o : Option (Tile R)) (b : Bool) → tile_at key es ≡ o → same_key q key ≡ b → tile_at q (touched key es) ≡ tile_at q es
  at_touched_by key q es None b h e = rw h refl
  at_touched_by key q es (Some t) true h e = let same : q ≡ key = key_same q key e in rw (h, e, same, h) refl
  at_touched_by key q es (Some t) false h e = rw (h, e) (at_without_other key q es (key_turned q key e))

  pub at_touched : (key q : TileKey) (es : TileList R) → tile_at q (touched key es) ≡ tile_at q es
  at_touched key q es = at_touched_by key q es (tile_at key es) (same_key q key) refl refl

  -- ---- how many there are

  pub length_without : (key : TileKey) (es : TileList R) (t : Tile R) → tile_at key es ≡ Some t → suc (length (without key es)) ≡ length es
  length_without key [] t h = absurd cc
  length_without key (e ∷ es) t h = (elim (same_key key e.0) as (λ y. same_key key e.0 ≡ y → suc (length (without key (e ∷ es))) ≡ length (e ∷ es)) [
    | true ↦ λ y. rw y refl
    | false ↦ λ y. rw y (ap suc (length_without key es t (rw y at h)))
  ]) refl

  pub length_without-le : (key : TileKey) (es : TileList R) → length (without key es) ≤ length es
  length_without-le key [] = omega arith
  length_without-le key (e ∷ es) = let on = length_without-le key es in (elim (same_key key e.0) as (λ y. same_key key e.0 ≡ y → length (without key (e ∷ es)) ≤ length (e ∷ es)) [
    | true ↦ λ y. rw y (omega arith)
    | false ↦ λ y. rw y (omega arith)
  ]) refl

  length_touched_by : (key : TileKey) (es : TileList R) (o : Option (Tile R)) → tile_at key es ≡ o → length (touched key es) ≡ length es
  length_touched_by key es None h = rw h refl
  length_touched_by key es (Some t) h = rw h (length_without key es t h)

  pub length_touched : (key : TileKey) (es : TileList R) → length (touched key es) ≡ length es
  length_touched key es = length_touched_by key es (tile_at key es) refl

  -- ---- each is a tile

  pub tile_in : (key : TileKey) (es : TileList R) (t : Tile R) → AreTiles es → tile_at key es ≡ Some t → IsTile t
  tile_in key [] t all h = absurd cc
  tile_in key (e ∷ es) t all h = (elim (same_key key e.0) as (λ y. same_key key e.0 ≡ y → IsTile t) [
    | true ↦ λ y. let h' = rw y at h in let same : e.1 ≡ t = cc in rw (← same) all.0
    | false ↦ λ y. tile_in key es t all.1 (rw y at h)
  ]) refl

  pub tiles_changed : (key : TileKey) (f : Tile R → Tile R) (es : TileList R) (t : Tile R) → tile_at key es ≡ Some t → IsTile (f t) → AreTiles es → AreTiles (changed_at key f es)
  tiles_changed key f [] t h i all = tt
  tiles_changed key f (e ∷ es) t h i all = (elim (same_key key e.0) as (λ y. same_key key e.0 ≡ y → AreTiles (changed_at key f (e ∷ es))) [
    | true ↦ λ y. let h' = rw y at h in let same : e.1 ≡ t = cc in rw (y, same) (i, all.1)
    | false ↦ λ y. rw y (all.0, tiles_changed key f es t (rw y at h) i all.1)
  ]) refl

  pub tiles_without : (key : TileKey) (es : TileList R) → AreTiles es → AreTiles (without key es)
  tiles_without key [] all = tt
  tiles_without key (e ∷ es) all = (elim (same_key key e.0) as (λ y. same_key key e.0 ≡ y → AreTiles (without key (e ∷ es))) [
    | true ↦ λ y. rw y all.1
    | false ↦ λ y. rw y (all.0, tiles_without key es all.1)
  ]) refl

  tiles_touched_by : (key : TileKey) (es : TileList R) (o : Option (Tile R)) → tile_at key es ≡ o → AreTiles es → AreTiles (touched key es)
  tiles_touched_by key es None h all = rw h all
  tiles_touched_by key es (Some t) h all = rw h (tile_in key es t all h, tiles_without key es all)

  pub tiles_touched : (key : TileKey) (es : TileList R) → AreTiles es → AreTiles (touched key es)
  tiles_touched key es = tiles_touched_by key es (tile_at key es) refl

  pub tiles_taken : (n : ℕ) (es : TileList R) → AreTiles es → AreTiles (take n es)
  tiles_taken zero es all = tt
  tiles_taken (suc n) [] all = tt
  tiles_taken (suc n) (e ∷ es) all = (all.0, tiles_taken n es all.1)

  -- ---- what stays when a tile is changed but for its rectangle

  pub tiles_changed_each : (key : TileKey) (f : Tile R → Tile R) → ((t : Tile R) → IsTile t → IsTile (f t)) → (es : TileList R) → AreTiles es → AreTiles (changed_at key f es)
  tiles_changed_each key f keeps [] all = tt
  tiles_changed_each key f keeps (e ∷ es) all = (elim (same_key key e.0) as (λ y. same_key key e.0 ≡ y → AreTiles (changed_at key f (e ∷ es))) [
    | true ↦ λ y. rw y (keeps e.1 all.0, all.1)
    | false ↦ λ y. rw y (all.0, tiles_changed_each key f keeps es all.1)
  ]) refl

  lies_in : (f : Tile R → Tile R) → ((t : Tile R) → (f t).rect ≡ t.rect) → (rect : Bounds) (o : Option (Tile R)) → LiesInTile rect o → LiesInTile rect (option_map f o)
  lies_in f keeps rect None h = h
  lies_in f keeps rect (Some t) h = rw (keeps t) h

  lies_by : (key : TileKey) (f : Tile R → Tile R) → ((t : Tile R) → (f t).rect ≡ t.rect) → (w : Window) (es : TileList R) (b : Bool) → same_key key w.key ≡ b
      → LiesInTile w.rect (tile_at w.key es) → LiesInTile w.rect (tile_at w.key (changed_at key f es))
  lies_by key f keeps w es true e h =
      let same : key ≡ w.key = key_same key w.key e in
      rw (same, at_changed w.key f es) (lies_in f keeps w.rect (tile_at w.key es) h)
  lies_by key f keeps w es false e h = rw (at_changed_other key w.key f es e) h

  pub lies_changed : (key : TileKey) (f : Tile R → Tile R) → ((t : Tile R) → (f t).rect ≡ t.rect) → (w : Option Window) (es : TileList R) → LiesInItsTile w es → LiesInItsTile w (changed_at key f es)
  lies_changed key f keeps None es h = tt
  lies_changed key f keeps (Some w) es h = lies_by key f keeps w es (same_key key w.key) refl h

  pub lies_touched : (key : TileKey) (w : Option Window) (es : TileList R) → LiesInItsTile w es → LiesInItsTile w (touched key es)
  lies_touched key None es h = tt
  lies_touched key (Some w) es h = rw (at_touched key w.key es) h

  pub store_touched : (key : TileKey) (s : StoreModel R) → IsStore s → IsStore (record s { tiles = touched key s.tiles })
  store_touched key s h = record {
    count = rw (length_touched key s.tiles) h.count;
    tiles = tiles_touched key s.tiles h.tiles;
    window = lies_touched key s.window s.tiles h.window;
  }

  pub store_changed : (key : TileKey) (f : Tile R → Tile R) → ((t : Tile R) → (f t).rect ≡ t.rect) → ((t : Tile R) → IsTile t → IsTile (f t)) → (s : StoreModel R) → IsStore s → IsStore (record s { tiles = changed_at key f s.tiles })
  store_changed key f rects keeps s h = record {
    count = rw (length_changed key f s.tiles) h.count;
    tiles = tiles_changed_each key f keeps s.tiles h.tiles;
    window = lies_changed key f rects s.window s.tiles h.window;
  }

  pub store_without : (key : TileKey) (es : TileList R) (n : ℕ) → IsStore (record { tiles = es; window = None; opened = n }) → IsStore (record { tiles = without key es; window = None; opened = n })
  store_without key es n h = let le = length_without-le key es in let most = h.count in record { count = omega arith; tiles = tiles_without key es h.tiles; window = tt }

  pub store_taken : (count : ℕ) (es : TileList R) (n : ℕ) → IsStore (record { tiles = es; window = None; opened = n }) → IsStore (record { tiles = take count es; window = None; opened = n })
  store_taken count es n h = let le = length-take count es in let most = h.count in record { count = omega (arith, le, most); tiles = tiles_taken count es h.tiles; window = tt }

  each_by : (key : TileKey) (es : TileList R) (o : Option (Tile R)) → AreTiles es → tile_at key es ≡ o → IfSome o (λ t. IsTile t)
  each_by key es None all h = tt
  each_by key es (Some t) all h = tile_in key es t all h

  pub each_found : (key : TileKey) (es : TileList R) → AreTiles es → IfSome (tile_at key es) (λ t. IsTile t)
  each_found key es all = each_by key es (tile_at key es) all refl

  pub touched_first : (key : TileKey) (es : TileList R) (t : Tile R) → tile_at key es ≡ Some t → touched key es ≡ (key, t) ∷ without key es
  touched_first key es t h = rw h refl
