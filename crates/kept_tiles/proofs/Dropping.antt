-- A tile that is given up.
use Rattle.std.proofs.Common.{◌≡◌, true, false, [], ◌∷◌, ◌++◌, Option, Some, None, option_map, refl, sym, ap, subst, ◌∙◌}
use Rattle.std.specs.List.{IsDistinct, AllByRecursion}
use Rattle.std.specs.Map.{keys_of}
use Rattle.wr_geom.specs.Bounds.{Bounds}
use Rattle.wr_geom.specs.declared.keys.TileKey.{TileKey}
use Rattle.tile_store.specs.Keys.{same_key}
use Rattle.tile_store.specs.StoreModel.{StoreModel, LiesInTile}
use Rattle.tile_store.specs.Tiles.{TileList, tile_at, without}
use Rattle.tile_store.specs.Laws.{HaveOwnKeys}
use Rattle.tile_store.specs.declared.tile.Tile.{Tile}
use Rattle.tile_store.proofs.Keys.{key_same}
use Rattle.tile_records.specs.Counts.{times, Covers, Moves}
use Rattle.tile_records.specs.Interning.{Interning, record_keys}
use Rattle.tile_records.specs.declared.record.TileRecord.{TileRecord}
use Rattle.kept_tiles.specs.Tiles.{all_valued, claims, kept_without}
use Rattle.kept_tiles.proofs.Claims.{same_claims, moves_same, moves_beside, moves_itself}
use Rattle.kept_tiles.proofs.Lists.{claims_without, valued_same, valued_without, without_none}

abbrev Store : Type 0
Store = StoreModel TileRecord

abbrev Stored : Type 0
Stored = Tile TileRecord

-- a tile whose note was answered
pub note_from : (o : Option Stored) (note : TileRecord) → Some note ≡ option_map (λ (t : Stored). t.note) o → (t : Stored) × (o ≡ Some t) × (t.note ≡ note)
note_from None note h = absurd cc
note_from (Some t) note h = (t, refl, let same : note ≡ t.note = cc in sym same)

pub no_note : (o : Option Stored) → None ≡ option_map (λ (t : Stored). t.note) o → o ≡ None
no_note None h = refl
no_note (Some t) h = absurd cc

module _ (a b : Interning) (old new : Store) (key : TileKey) (left : new ≡ record old { tiles = without key old.tiles }) where
  pub dropped_moves : (t : Stored) (note : TileRecord) → tile_at key old.tiles ≡ Some t → t.note ≡ note → Moves a b (record_keys note) [] → Moves a b (claims old.tiles) (claims new.tiles)
  dropped_moves t note at is h =
      subst (λ (x : Store). Moves a b (claims old.tiles) (claims x.tiles)) (sym left)
      (moves_same a b (record_keys note ++ claims (without key old.tiles)) ([] ++ claims (without key old.tiles)) (claims old.tiles) (claims (without key old.tiles))
      (λ k. sym (claims_without key old.tiles t at k ∙ ap (λ (n : TileRecord). times k (record_keys n ++ claims (without key old.tiles))) is)) (λ k. refl)
      (moves_beside a b (record_keys note) [] (claims (without key old.tiles)) h))

  pub dropped_values : (t : Stored) (note : TileRecord) → tile_at key old.tiles ≡ Some t → t.note ≡ note → Moves a b (record_keys note) [] → Covers a (claims old.tiles) → all_valued b new.tiles ≡ kept_without key (all_valued a old.tiles)
  dropped_values t note at is h c =
      ap (λ (x : Store). all_valued b x.tiles) left
      ∙ valued_same a b (without key old.tiles)
      (λ k p. h.entries (claims (without key old.tiles))
      (same_claims a (claims old.tiles) (record_keys note ++ claims (without key old.tiles)) (λ q. claims_without key old.tiles t at q ∙ ap (λ (n : TileRecord). times q (record_keys n ++ claims (without key old.tiles))) is) c) k p)
      ∙ valued_without a key old.tiles

  pub absent_moves : tile_at key old.tiles ≡ None → Moves a a (claims old.tiles) (claims new.tiles)
  absent_moves none = subst (λ (l : TileList TileRecord). Moves a a (claims old.tiles) (claims l)) (sym (ap (λ (x : Store). x.tiles) left ∙ without_none key old.tiles none)) (moves_itself a (claims old.tiles))

  pub absent_values : all_valued a new.tiles ≡ kept_without key (all_valued a old.tiles)
  absent_values = ap (λ (x : Store). all_valued a x.tiles) left ∙ valued_without a key old.tiles

-- ---- keys are distinct

no_key : (k : TileKey) (es : TileList TileRecord) → AllByRecursion (λ y. same_key k y ≡ false) (keys_of es) → tile_at k es ≡ None
no_key k [] h = refl
no_key k (e ∷ es) h = rw h.0 (no_key k es h.1)

pub none_left : (k : TileKey) (es : TileList TileRecord) → HaveOwnKeys es → tile_at k (without k es) ≡ None
unfolding IsDistinct
none_left k [] h = refl
none_left k (e ∷ es) h = (elim (same_key k e.0) as (λ y. same_key k e.0 ≡ y → tile_at k (without k (e ∷ es)) ≡ None) [
  | true ↦ λ t. rw t (subst (λ (j : TileKey). tile_at j es ≡ None) (sym (key_same k e.0 t)) (no_key e.0 es h.0))
  | false ↦ λ t. rw t (rw t (none_left k es h.1))
]) refl

-- a rectangle lies in a tile that is kept
pub tile_there : (part : Bounds) (o : Option Stored) → LiesInTile part o → (t : Stored) × (o ≡ Some t)
tile_there part None h = absurd h
tile_there part (Some t) h = (t, refl)
