-- A tile that is drawn, gets another record, and is the most recent.
use Rattle.std.proofs.Common.{◌≡◌, ◌<◌, ℕ, List, [], ◌∷◌, ◌++◌, Option, Some, None, IsSome, option_map, refl, sym, ap, subst, ◌∙◌, ℤ, arith}
use Rattle.wr_geom.specs.Bounds.{Bounds, area_of}
use Rattle.wr_geom.specs.declared.keys.TileKey.{TileKey}
use Rattle.blend_rules.specs.declared.colour.Px.{Px}
use Rattle.blend_rules.specs.declared.plane.Plane.TheVariants.{B, G, R, A}
use Rattle.blend_rules.proofs.Blends.{same_bytes}
use Rattle.image_store.specs.StoreModel.{StoreModel as Resources}
use Rattle.primitives.specs.Stacks.{value_at}
use Rattle.tile_store.specs.StoreModel.{StoreModel, opened_after}
use Rattle.tile_store.specs.Tiles.{TileList, tile_at, without, changed_at}
use Rattle.tile_store.specs.declared.tile.Tile.{Tile}
use Rattle.tile_store.proofs.Keys.{key_is}
use Rattle.tile_store.proofs.Listed.{changed_ext, changed_twice, at_changed}
use Rattle.tile_records.specs.Counts.{times, Covers, Moves}
use Rattle.tile_records.specs.Interning.{Interning, entry_at, entries_under, record_keys}
use Rattle.tile_records.specs.declared.record.TileRecord.{TileRecord}
use Rattle.tile_records.proofs.Holding.{times_append}
use Rattle.tile_raster.specs.Windows.{IsRedrawn, IsWindowDrawn}
use Rattle.kept_tiles.specs.Tiles.{KeptTile, KeptTiles, kept_with, valued, all_valued, claims}
use Rattle.kept_tiles.specs.Steps.{IsReached, ReachedFrom, IsDrawnAnew, ShowsIn, IsHeaded}
use Rattle.kept_tiles.proofs.Claims.{same_claims, moves_same, moves_beside, under_same}
use Rattle.kept_tiles.proofs.Lists.{valued_at, valued_without, valued_same}

abbrev Store : Type 0
Store = StoreModel TileRecord

abbrev Stored : Type 0
Stored = Tile TileRecord

-- ---- drawn through a window, with another note then

abbrev with_note : TileRecord → Stored → Stored
with_note note t = record t { note = note }

pub drawn_anew : (old mid new : Store) (key : TileKey) (part : Bounds) (t : Stored) (note : TileRecord) (f : ℤ → ℤ → Px) → tile_at key old.tiles ≡ Some t
    → IsWindowDrawn old mid (record { key = key; rect = part }) f
    → new ≡ record mid { tiles = changed_at key (with_note note) mid.tiles }
    → IsDrawnAnew old new key t part note f
drawn_anew old mid new key part t note f h w s =
    let twice = changed_twice key (with_note note) w.change old.tiles in
    let own = changed_ext key (λ u. with_note note (w.change u)) (λ u. record (w.change t) { note = note }) old.tiles t h refl in
    record {
      drawn = w.change t;
      redrawn = w.tile t h;
      store = s ∙ ap (λ (x : Store). let y : Store = record x { tiles = changed_at key (with_note note) x.tiles } in y) w.store
          ∙ ap (λ l. let y : Store = record { tiles = l; window = None; opened = opened_after old.opened (area_of part) } in y) (twice ∙ own);
    }

-- a tile that was drawn is still kept
pub still_kept : (old mid : Store) (key : TileKey) (part : Bounds) (t : Stored) (f : ℤ → ℤ → Px) → tile_at key old.tiles ≡ Some t
    → IsWindowDrawn old mid (record { key = key; rect = part }) f → IsSome (tile_at key mid.tiles)
still_kept old mid key part t f h w =
    let at : tile_at key mid.tiles ≡ Some (w.change t) = ap (λ (x : Store). tile_at key x.tiles) w.store ∙ at_changed key w.change old.tiles ∙ ap (option_map w.change) h in
    subst (λ (o : Option Stored). IsSome o) (sym at) refl

-- the old note is that of the tile before
pub note_before : (old mid : Store) (key : TileKey) (part : Bounds) (t : Stored) (f : ℤ → ℤ → Px) (note : TileRecord) → tile_at key old.tiles ≡ Some t
    → IsWindowDrawn old mid (record { key = key; rect = part }) f
    → Some note ≡ option_map (λ (u : Stored). u.note) (tile_at key mid.tiles) → note ≡ t.note
note_before old mid key part t f note h w e =
    let at : tile_at key mid.tiles ≡ Some (w.change t) = ap (λ (x : Store). tile_at key x.tiles) w.store ∙ at_changed key w.change old.tiles ∙ ap (option_map w.change) h in
    let same : Some note ≡ Some (w.change t).note = e ∙ ap (option_map (λ (u : Stored). u.note)) at in
    let own : note ≡ (w.change t).note = cc in
    own ∙ (w.tile t h).same_note

-- ---- by value

shows_in : (m n : Interning) (t : Stored) (drawn : Stored) (note : TileRecord) (part : Bounds) (f : ℤ → ℤ → Px) → IsRedrawn t drawn part f → ShowsIn (valued m t) (valued n (with_note note drawn)) part f
shows_in m n t drawn note part f r = record {
  rect = r.same_rect;
  inside = λ x y h. same_bytes _ _ (r.inside B x y h) (r.inside G x y h) (r.inside R x y h) (r.inside A x y h);
  outside = λ x y h k. same_bytes _ _ (r.outside B x y h k) (r.outside G x y h k) (r.outside R x y h k) (r.outside A x y h k);
}

set_first : (key : TileKey) (t : Stored) (g : Stored → Stored) (es : TileList TileRecord) → changed_at key g ((key, t) ∷ es) ≡ (key, g t) ∷ es
set_first key t g es = rw (key_is key) refl

-- how often an id is named behind another list
pub named_behind : (k : ℕ) (xs ys : List ℕ) → 0 < times k ys → 0 < times k (xs ++ ys)
named_behind k xs ys h = let e = times_append k xs ys in omega (arith, e, h)

pub named_before : (k : ℕ) (xs ys : List ℕ) → 0 < times k xs → 0 < times k (xs ++ ys)
named_before k xs ys h = let e = times_append k xs ys in omega (arith, e, h)

-- what is given up, and what others hold then
more_claims : (given : List ℕ) (record_ids : List ℕ) (all rest : List ℕ) → ((k : ℕ) → times k all ≡ times k (given ++ rest)) → (k : ℕ) → times k (record_ids ++ all) ≡ times k (given ++ (record_ids ++ rest))
more_claims given ids all rest e k =
    let a = e k in
    let b = times_append k ids all in
    let c = times_append k given rest in
    let d = times_append k given (ids ++ rest) in
    let f = times_append k ids rest in
    omega (arith, a, b, c, d, f)

module _ (m n : Interning) (old mid new : Store) (key : TileKey) (rect part : Bounds) (note : TileRecord) (store : Resources)
    (reached : IsReached m old mid key rect (entries_under m (record_keys note)) part)
    (drawn : (t : Stored) → tile_at key mid.tiles ≡ Some t → IsDrawnAnew mid new key t part note (value_at (entries_under m (record_keys note)) store))
    (given : (t : Stored) → tile_at key mid.tiles ≡ Some t → Moves m n (record_keys t.note) []) where
  at_mid : tile_at key mid.tiles ≡ Some reached.tile
  at_mid = ap (λ (x : Store). tile_at key x.tiles) reached.first ∙ (rw (key_is key) refl)

  anew : IsDrawnAnew mid new key reached.tile part note (value_at (entries_under m (record_keys note)) store)
  anew = drawn reached.tile at_mid

  new_tiles : new.tiles ≡ (key, with_note note anew.drawn) ∷ without key old.tiles
  new_tiles =
      ap (λ (x : Store). x.tiles) anew.store
      ∙ ap (λ (x : Store). changed_at key (λ t. record anew.drawn { note = note }) x.tiles) reached.first
      ∙ set_first key reached.tile (λ t. record anew.drawn { note = note }) (without key old.tiles)

  claims_before : (k : ℕ) → times k (record_keys note ++ claims old.tiles) ≡ times k (record_keys reached.tile.note ++ (record_keys note ++ claims (without key old.tiles)))
  claims_before k = more_claims (record_keys reached.tile.note) (record_keys note) (claims old.tiles) (claims (without key old.tiles)) reached.claimed k

  pub moved : Moves m n (record_keys note ++ claims old.tiles) (claims new.tiles)
  moved = subst (λ (l : TileList TileRecord). Moves m n (record_keys note ++ claims old.tiles) (claims l)) (sym new_tiles)
      (moves_same m n (record_keys reached.tile.note ++ (record_keys note ++ claims (without key old.tiles))) (record_keys note ++ claims (without key old.tiles))
      (record_keys note ++ claims old.tiles) (record_keys note ++ claims (without key old.tiles))
      (λ k. sym (claims_before k)) (λ k. refl)
      (moves_beside m n (record_keys reached.tile.note) [] (record_keys note ++ claims (without key old.tiles)) (given reached.tile at_mid)))

  pub headed : Covers m (record_keys note ++ claims old.tiles) → IsHeaded store (kept_with m old) (kept_with n new) key rect part (entries_under m (record_keys note))
  headed c =
      let stay : (k : ℕ) → 0 < times k (record_keys note ++ claims (without key old.tiles)) → entry_at n k ≡ entry_at m k =
      (given reached.tile at_mid).entries (record_keys note ++ claims (without key old.tiles))
      (same_claims m (record_keys note ++ claims old.tiles) (record_keys reached.tile.note ++ (record_keys note ++ claims (without key old.tiles))) claims_before c) in
      record {
        was = valued m reached.tile;
        tile = valued n (with_note note anew.drawn);
        from = subst (λ (o : Option KeptTile). ReachedFrom o (valued m reached.tile) (entries_under m (record_keys note)) rect part) (sym (valued_at m key old.tiles)) reached.from;
        shows = shows_in m n reached.tile anew.drawn note part (value_at (entries_under m (record_keys note)) store) anew.redrawn;
        entries_is = under_same m n (record_keys note) (λ k p. stay k (named_before k (record_keys note) (claims (without key old.tiles)) p));
        kept = ap (all_valued n) new_tiles
            ∙ ap (λ (l : KeptTiles). (key, valued n (with_note note anew.drawn)) ∷ l)
            (valued_same m n (without key old.tiles) (λ k p. stay k (named_behind k (record_keys note) (claims (without key old.tiles)) p)) ∙ valued_without m key old.tiles);
        opened = ap (λ (x : Store). x.opened) anew.store ∙ ap (λ (x : Store). opened_after x.opened (area_of part)) reached.first;
      }

  pub closed_again : new.window ≡ None
  closed_again = ap (λ (x : Store). x.window) anew.store
