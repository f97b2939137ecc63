-- The tiles with the planes put back that are taken out while a window is open.
use Rattle.std.proofs.Common.{◌≡◌, ◌<◌, arith, Bool, true, false, ◌∷◌, length, Option, Some, None, option_map, is_some, refl, ap, sym, ◌∙◌, true≢false}
use Rattle.std.specs.Option.{option_map_or}
use Rattle.std.specs.Map.{set_value, keys_of}
use Rattle.std.specs.List.{IsDistinct}
use Rattle.span_kernels.specs.PlanesModel.{PlanesModel}
use Rattle.wr_geom.specs.declared.keys.TileKey.{TileKey}
use Rattle.tile_store.specs.declared.tile.Tile.{Tile}
use Rattle.tile_store.specs.declared.window.OpenWindow.{OpenWindow}
use Rattle.tile_store.specs.declared.window.Window.{Window}
use Rattle.tile_store.specs.declared.limits.TheConstants.{MAX_TILES}
use Rattle.tile_store.specs.StoreModel.{StoreModel, IsStore, LiesInItsTile}
use Rattle.tile_store.specs.Keys.{same_key}
use Rattle.tile_store.specs.Tiles.{TileList, IsTile, tile_at, touched, changed_at}
use Rattle.tile_store.specs.Within.{window_of, with_planes, put_back, IsOpenIn}
use Rattle.tile_store.proofs.Keys.{key_same}
use Rattle.tile_store.proofs.Listed.{set_is_changed, changed_ext, changed_id, changed_twice, at_changed, at_changed_other, changes_commute, touched_changed, at_touched, length_changed, keys_changed}

-- whether the window is open on the tile at a key
abbrev pub is_open : Option OpenWindow → TileKey → Bool
is_open w key = option_map_or (λ window. same_key window.key key) (window_of w) false

pub closed_from : (w : Option OpenWindow) → window_of w ≡ None → w ≡ None
closed_from None h = refl
closed_from (Some o) h = cc

module _ {R : Type 0} where
  -- ---- what is found

  pub seen_none : (es : TileList R) (w : Option OpenWindow) (planes : PlanesModel) (key : TileKey) → tile_at key es ≡ None → tile_at key (put_back es w planes) ≡ None
  seen_none es None planes key h = h
  seen_none es (Some o) planes key h = none_by (same_key o.window.key key) refl
    where
      none_by : (b : Bool) → same_key o.window.key key ≡ b → tile_at key (changed_at o.window.key (with_planes planes) es) ≡ None
      none_by true e = let same : o.window.key ≡ key = key_same o.window.key key e in rw (same, at_changed key (with_planes planes) es, h) refl
      none_by false e = at_changed_other o.window.key key (with_planes planes) es e ∙ h

  pub seen_open : (es : TileList R) (w : Option OpenWindow) (planes : PlanesModel) (key : TileKey) (t : Tile R) → tile_at key es ≡ Some t → is_open w key ≡ true → tile_at key (put_back es w planes) ≡ Some (with_planes planes t)
  seen_open es None planes key t h e = absurd (true≢false (sym e))
  seen_open es (Some o) planes key t h e = let same : o.window.key ≡ key = key_same o.window.key key e in rw (same, at_changed key (with_planes planes) es, h) refl

  pub seen_else : (es : TileList R) (w : Option OpenWindow) (planes : PlanesModel) (key : TileKey) (t : Tile R) → tile_at key es ≡ Some t → is_open w key ≡ false → tile_at key (put_back es w planes) ≡ Some t
  seen_else es None planes key t h e = h
  seen_else es (Some o) planes key t h e = at_changed_other o.window.key key (with_planes planes) es e ∙ h

  -- ---- what is done

  pub length_backed : (es : TileList R) (w : Option OpenWindow) (planes : PlanesModel) → length (put_back es w planes) ≡ length es
  length_backed es None planes = refl
  length_backed es (Some o) planes = length_changed o.window.key (with_planes planes) es

  pub touched_backed : (key : TileKey) (es : TileList R) (w : Option OpenWindow) (planes : PlanesModel) → put_back (touched key es) w planes ≡ touched key (put_back es w planes)
  touched_backed key es None planes = refl
  touched_backed key es (Some o) planes = sym (touched_changed key o.window.key (with_planes planes) es)

  pub open_touched : (key : TileKey) (es : TileList R) (w : Option OpenWindow) → IsOpenIn es w → IsOpenIn (touched key es) w
  open_touched key es None h = tt
  open_touched key es (Some o) (t, h, r) = (t, at_touched key o.window.key es ∙ h, r)

  some_by : (es : TileList R) (w : Option OpenWindow) (planes : PlanesModel) (key : TileKey) (o : Option (Tile R)) → tile_at key es ≡ o → is_some (tile_at key (put_back es w planes)) ≡ is_some (tile_at key es)
  some_by es w planes key None h = rw (seen_none es w planes key h, h) refl
  some_by es w planes key (Some t) h = some_at (is_open w key) refl
    where
      some_at : (b : Bool) → is_open w key ≡ b → is_some (tile_at key (put_back es w planes)) ≡ is_some (tile_at key es)
      some_at true e = rw (seen_open es w planes key t h e, h) refl
      some_at false e = rw (seen_else es w planes key t h e, h) refl

  -- a tile is kept with its planes put back exactly where it is
  pub is_some_backed : (es : TileList R) (w : Option OpenWindow) (planes : PlanesModel) (key : TileKey) → is_some (tile_at key (put_back es w planes)) ≡ is_some (tile_at key es)
  is_some_backed es w planes key = some_by es w planes key (tile_at key es) refl

  -- its note is the same
  note_by : (es : TileList R) (w : Option OpenWindow) (planes : PlanesModel) (key : TileKey) (t : Tile R) (b : Bool) → tile_at key es ≡ Some t → is_open w key ≡ b → option_map (λ u. u.note) (tile_at key (put_back es w planes)) ≡ Some t.note
  note_by es w planes key t true h e = rw (seen_open es w planes key t h e) refl
  note_by es w planes key t false h e = rw (seen_else es w planes key t h e) refl

  pub note_backed : (es : TileList R) (w : Option OpenWindow) (planes : PlanesModel) (key : TileKey) (t : Tile R) → tile_at key es ≡ Some t → option_map (λ u. u.note) (tile_at key (put_back es w planes)) ≡ Some t.note
  note_backed es w planes key t h = note_by es w planes key t (is_open w key) h refl

  abbrev pub with_note : R → Tile R → Tile R
  with_note note t = record t { note = note }

  pub noted_backed : (es : TileList R) (w : Option OpenWindow) (planes : PlanesModel) (key : TileKey) (t : Tile R) (note : R) → tile_at key es ≡ Some t
      → put_back (set_value (same_key key) es (with_note note t)) w planes ≡ changed_at key (with_note note) (put_back es w planes)
  noted_backed es None planes key t note h = set_is_changed key (with_note note) es t h
  noted_backed es (Some o) planes key t note h =
      ap (changed_at o.window.key (with_planes planes)) (set_is_changed key (with_note note) es t h)
      ∙ changes_commute o.window.key key (with_planes planes) (with_note note) (λ u. refl) es

  open_noted_by : (es : TileList R) (o : OpenWindow) (key : TileKey) (t : Tile R) (note : R) (b : Bool) → tile_at key es ≡ Some t → same_key key o.window.key ≡ b → IsOpenIn es (Some o) → IsOpenIn (changed_at key (with_note note) es) (Some o)
  open_noted_by es o key t note true h e (u, k, r) =
      let same : key ≡ o.window.key = key_same key o.window.key e in
      (with_note note u, rw (same) (at_changed o.window.key (with_note note) es ∙ ap (option_map (with_note note)) k), r)
  open_noted_by es o key t note false h e (u, k, r) = (u, at_changed_other key o.window.key (with_note note) es e ∙ k, r)

  pub open_noted : (es : TileList R) (w : Option OpenWindow) (key : TileKey) (t : Tile R) (note : R) → tile_at key es ≡ Some t → IsOpenIn es w → IsOpenIn (set_value (same_key key) es (with_note note t)) w
  open_noted es None key t note h i = tt
  open_noted es (Some o) key t note h i = rw (set_is_changed key (with_note note) es t h) (open_noted_by es o key t note (same_key key o.window.key) h refl i)

  -- ---- opening and closing

  pub opened_backed : (es : TileList R) (o : OpenWindow) (spare : PlanesModel) (t : Tile R) → tile_at o.window.key es ≡ Some t
      → put_back (set_value (same_key o.window.key) es (with_planes spare t)) (Some o) t.planes ≡ es
  opened_backed es o spare t h =
      ap (changed_at o.window.key (with_planes t.planes)) (set_is_changed o.window.key (with_planes spare) es t h)
      ∙ changed_twice o.window.key (with_planes t.planes) (with_planes spare) es
      ∙ changed_ext o.window.key (λ u. with_planes t.planes (with_planes spare u)) (λ u. u) es t h refl
      ∙ changed_id o.window.key es

  pub opened_in : (es : TileList R) (o : OpenWindow) (spare : PlanesModel) (t : Tile R) → tile_at o.window.key es ≡ Some t → t.rect ≡ o.tile
      → IsOpenIn (set_value (same_key o.window.key) es (with_planes spare t)) (Some o)
  opened_in es o spare t h r = (with_planes spare t, ap (tile_at o.window.key) (set_is_changed o.window.key (with_planes spare) es t h) ∙ at_changed o.window.key (with_planes spare) es ∙ ap (option_map (with_planes spare)) h, r)

  -- ---- a new tile

  none_from : (o : Option (Tile R)) → is_some o ≡ false → o ≡ None
  none_from None h = refl
  none_from (Some t) h = cc

  -- a key that isn't kept with the planes put back isn't kept
  pub none_backed : (es : TileList R) (w : Option OpenWindow) (planes : PlanesModel) (key : TileKey) → tile_at key (put_back es w planes) ≡ None → tile_at key es ≡ None
  none_backed es w planes key h = none_from (tile_at key es) (sym (is_some_backed es w planes key) ∙ ap (λ (o : Option (Tile R)). is_some o) h)

  -- a key that is kept isn't equal to one that isn't
  other_by : (k key : TileKey) (es : TileList R) (t : Tile R) (b : Bool) → tile_at key es ≡ None → tile_at k es ≡ Some t → same_key k key ≡ b → same_key k key ≡ false
  other_by k key es t true none some e = let same : k ≡ key = key_same k key e in let h = rw same at some in let n : None ≡ Some t = sym none ∙ h in cc
  other_by k key es t false none some e = e

  pub put_backed : (es : TileList R) (w : Option OpenWindow) (planes : PlanesModel) (key : TileKey) (new : Tile R) → tile_at key es ≡ None → IsOpenIn es w
      → put_back ((key, new) ∷ es) w planes ≡ (key, new) ∷ put_back es w planes
  put_backed es None planes key new none i = refl
  put_backed es (Some o) planes key new none (t, h, r) = rw (other_by o.window.key key es t (same_key o.window.key key) none h refl) refl

  pub open_put : (es : TileList R) (w : Option OpenWindow) (key : TileKey) (new : Tile R) → tile_at key es ≡ None → IsOpenIn es w → IsOpenIn ((key, new) ∷ es) w
  open_put es None key new none i = tt
  open_put es (Some o) key new none (t, h, r) = (t, rw (other_by o.window.key key es t (same_key o.window.key key) none h refl) h, r)

  lies_put : (w : Option Window) (es : TileList R) (key : TileKey) (new : Tile R) → tile_at key es ≡ None → LiesInItsTile w es → LiesInItsTile w ((key, new) ∷ es)
  lies_put None es key new none h = tt
  lies_put (Some w) es key new none h = by_tile (tile_at w.key es) refl
    where
      by_tile : (o : Option (Tile R)) → tile_at w.key es ≡ o → LiesInItsTile (Some w) ((key, new) ∷ es)
      by_tile None e = absurd (rw e at h)
      by_tile (Some t) e = rw (other_by w.key key es t (same_key w.key key) none e refl) h

  pub store_put : (s : StoreModel R) (key : TileKey) (new : Tile R) → tile_at key s.tiles ≡ None → length s.tiles < MAX_TILES → IsTile new → IsStore s → IsStore (record s { tiles = (key, new) ∷ s.tiles })
  store_put s key new none room tile h = record {
    count = omega arith;
    tiles = (tile, h.tiles);
    window = lies_put s.window s.tiles key new none h.window;
  }

  -- the keys are distinct as those of the cache are
  pub own_keys_backed : (es : TileList R) (w : Option OpenWindow) (planes : PlanesModel) → IsDistinct same_key (keys_of es) → IsDistinct same_key (keys_of (put_back es w planes))
  own_keys_backed es None planes h = h
  own_keys_backed es (Some o) planes h = rw (keys_changed o.window.key (with_planes planes) es) h
