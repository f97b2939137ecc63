-- Lists of kept tiles, by value and as they are stored.
use Rattle.std.proofs.Common.{◌≡◌, ◌<◌, ℕ, zero, suc, true, false, [], ◌∷◌, ◌++◌, take, option_map, Some, None, refl, ap, arith}
use Rattle.std.proofs.lemmas.Map.Made.{lookup-map_values}
use Rattle.wr_geom.specs.declared.keys.TileKey.{TileKey}
use Rattle.tile_store.specs.Keys.{same_key}
use Rattle.tile_store.specs.Tiles.{TileList, tile_at, without, changed_at}
use Rattle.tile_store.specs.declared.tile.Tile.{Tile}
use Rattle.tile_records.specs.Interning.{Interning, entry_at, record_keys}
use Rattle.tile_records.specs.Counts.{times}
use Rattle.tile_records.specs.declared.record.TileRecord.{TileRecord}
use Rattle.tile_records.proofs.Holding.{times_append}
use Rattle.kept_tiles.specs.Tiles.{KeptTiles, valued, all_valued, claims, kept_at, kept_without}
use Rattle.kept_tiles.proofs.Claims.{under_same}

abbrev Tiles : Type 0
Tiles = TileList TileRecord

-- ---- by value

pub valued_at : (m : Interning) (key : TileKey) (es : Tiles) → kept_at key (all_valued m es) ≡ option_map (valued m) (tile_at key es)
valued_at m key es = lookup-map_values (valued m) (same_key key) es

pub valued_without : (m : Interning) (key : TileKey) (es : Tiles) → all_valued m (without key es) ≡ kept_without key (all_valued m es)
valued_without m key [] = refl
valued_without m key (e ∷ es) = (elim (same_key key e.0) as (λ y. same_key key e.0 ≡ y → all_valued m (without key (e ∷ es)) ≡ kept_without key (all_valued m (e ∷ es))) [
  | true ↦ λ t. rw t refl
  | false ↦ λ t. rw t (ap (λ (l : KeptTiles). (e.0, valued m e.1) ∷ l) (valued_without m key es))
]) refl

pub valued_take : (m : Interning) (n : ℕ) (es : Tiles) → all_valued m (take n es) ≡ take n (all_valued m es)
valued_take m zero es = refl
valued_take m (suc n) [] = refl
valued_take m (suc n) (e ∷ es) = ap (λ (l : KeptTiles). (e.0, valued m e.1) ∷ l) (valued_take m n es)

-- where the ids of all tiles keep their entries, all tiles are the same by value
pub valued_same : (a b : Interning) (es : Tiles) → ((k : ℕ) → 0 < times k (claims es) → entry_at b k ≡ entry_at a k) → all_valued b es ≡ all_valued a es
valued_same a b [] f = refl
valued_same a b (e ∷ es) f =
    let own = under_same a b (record_keys e.1.note) (λ k h. f k (let t = times_append k (record_keys e.1.note) (claims es) in omega (arith, t, h))) in
    let rest = valued_same a b es (λ k h. f k (let t = times_append k (record_keys e.1.note) (claims es) in omega (arith, t, h))) in
    let first : valued b e.1 ≡ valued a e.1 = ap (λ l. record { rect = e.1.rect; planes = e.1.planes; entries = l }) own in
    λ i. (e.0, first i) ∷ rest i

-- ---- what they claim

pub claims_without : (key : TileKey) (es : Tiles) (t : Tile TileRecord) → tile_at key es ≡ Some t → (k : ℕ) → times k (claims es) ≡ times k (record_keys t.note ++ claims (without key es))
claims_without key [] t h k = absurd cc
claims_without key (e ∷ es) t h k = (elim (same_key key e.0) as (λ y. same_key key e.0 ≡ y → times k (claims (e ∷ es)) ≡ times k (record_keys t.note ++ claims (without key (e ∷ es)))) [
  | true ↦ λ y. let h' = rw y at h in let same : e.1 ≡ t = cc in rw (y, same) refl
  | false ↦ λ y.
      let later = claims_without key es t (rw y at h) k in
      let a = times_append k (record_keys e.1.note) (claims es) in
      let b = times_append k (record_keys t.note) (claims (without key es)) in
      let c = times_append k (record_keys t.note) (record_keys e.1.note ++ claims (without key es)) in
      let d = times_append k (record_keys e.1.note) (claims (without key es)) in
      rw y (omega (arith, later, a, b, c, d))
]) refl

pub claims_changed : (key : TileKey) (change : Tile TileRecord → Tile TileRecord) (es : Tiles) (t : Tile TileRecord) → tile_at key es ≡ Some t
    → (k : ℕ) → times k (claims (changed_at key change es)) ≡ times k (record_keys (change t).note ++ claims (without key es))
claims_changed key change [] t h k = absurd cc
claims_changed key change (e ∷ es) t h k = (elim (same_key key e.0) as (λ y. same_key key e.0 ≡ y → times k (claims (changed_at key change (e ∷ es))) ≡ times k (record_keys (change t).note ++ claims (without key (e ∷ es)))) [
  | true ↦ λ y. let h' = rw y at h in let same : e.1 ≡ t = cc in rw (y, same) refl
  | false ↦ λ y.
      let later = claims_changed key change es t (rw y at h) k in
      let a = times_append k (record_keys e.1.note) (claims (changed_at key change es)) in
      let b = times_append k (record_keys (change t).note) (claims (without key es)) in
      let c = times_append k (record_keys (change t).note) (record_keys e.1.note ++ claims (without key es)) in
      let d = times_append k (record_keys e.1.note) (claims (without key es)) in
      rw y (omega (arith, later, a, b, c, d))
]) refl

pub without_none : (key : TileKey) (es : Tiles) → tile_at key es ≡ None → without key es ≡ es
without_none key [] h = refl
without_none key (e ∷ es) h = (elim (same_key key e.0) as (λ y. same_key key e.0 ≡ y → without key (e ∷ es) ≡ e ∷ es) [
  | true ↦ λ y. let h' = rw y at h in absurd cc
  | false ↦ λ y. rw y (ap (λ (l : Tiles). e ∷ l) (without_none key es (rw y at h)))
]) refl
