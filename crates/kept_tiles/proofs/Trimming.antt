-- The least recent tile, which is given up.
use Rattle.std.proofs.Common.{slice_get, ◌≡◌, ◌<◌, ◌≤◌, ◌-◌, ℕ, zero, suc, Bool, true, false, ltb, List, [], ◌∷◌, ◌++◌, length, length-take, take, option_map, Option, Some, None, refl, sym, ap, subst, ◌∙◌, arith}
use Rattle.std.proofs.lemmas.Bool.{ltb-true}
use Rattle.std.specs.Option.{option_map_or}
use Rattle.lru.specs.LruCache.{last_entry}
use Rattle.wr_geom.specs.declared.keys.TileKey.{TileKey}
use Rattle.tile_store.specs.StoreModel.{StoreModel}
use Rattle.tile_store.specs.Tiles.{TileList, popped_over, least_recent_over}
use Rattle.tile_store.specs.declared.tile.Tile.{Tile}
use Rattle.tile_records.specs.Counts.{times, Covers, Moves}
use Rattle.tile_records.specs.Interning.{Interning, record_keys}
use Rattle.tile_records.specs.declared.record.TileRecord.{TileRecord}
use Rattle.tile_records.proofs.Holding.{times_append}
use Rattle.kept_tiles.specs.Tiles.{all_valued, claims}
use Rattle.kept_tiles.proofs.Claims.{same_claims}
use Rattle.kept_tiles.proofs.Lists.{valued_same, valued_take}

abbrev Tiles : Type 0
Tiles = TileList TileRecord

abbrev Store : Type 0
Store = StoreModel TileRecord

module _ {X : Type 0} where
  take_twice : (budget n : ℕ) (xs : List X) → budget ≤ n → take budget (take n xs) ≡ take budget xs
  take_twice zero n xs h = refl
  take_twice (suc b) zero xs h = absurd (omega (arith, h))
  take_twice (suc b) (suc n) [] h = refl
  take_twice (suc b) (suc n) (x ∷ xs) h = ap (λ (l : List X). x ∷ l) (take_twice b n xs (omega (arith, h)))

last_later : (x y e : TileKey × Tile TileRecord) (es : Tiles) → last_entry (x ∷ (y ∷ es)) ≡ Some e → last_entry (y ∷ es) ≡ Some e
last_later x y e es h =
    let index : length (x ∷ (y ∷ es)) - 1 ≡ suc (length (y ∷ es) - 1) = omega arith in
    sym (ap (λ (k : ℕ). slice_get (x ∷ (y ∷ es)) k) index) ∙ h

all_but_last : (x y : TileKey × Tile TileRecord) (es : Tiles) → take (length (x ∷ (y ∷ es)) - 1) (x ∷ (y ∷ es)) ≡ x ∷ take (length (y ∷ es) - 1) (y ∷ es)
all_but_last x y es =
    let index : length (x ∷ (y ∷ es)) - 1 ≡ suc (length (y ∷ es) - 1) = omega arith in
    ap (λ (k : ℕ). take k (x ∷ (y ∷ es))) index

-- what the last tile claims, and what those before it do
claims_last : (es : Tiles) (e : TileKey × Tile TileRecord) → last_entry es ≡ Some e → (k : ℕ) → times k (claims es) ≡ times k (record_keys e.1.note ++ claims (take (length es - 1) es))
claims_last [] e h k = absurd cc
claims_last (x ∷ []) e h k = let same : x ≡ e = cc in ap (λ (y : TileKey × Tile TileRecord). times k (record_keys y.1.note ++ [])) same
claims_last (x ∷ (y ∷ es)) e h k =
    let later = claims_last (y ∷ es) e (last_later x y e es h) k in
    let but = ap (λ (l : Tiles). times k (record_keys e.1.note ++ claims l)) (all_but_last x y es) in
    let a = times_append k (record_keys x.1.note) (claims (y ∷ es)) in
    let b = times_append k (record_keys e.1.note) (claims (take (length (y ∷ es) - 1) (y ∷ es))) in
    let c = times_append k (record_keys e.1.note) (record_keys x.1.note ++ claims (take (length (y ∷ es) - 1) (y ∷ es))) in
    let d = times_append k (record_keys x.1.note) (claims (take (length (y ∷ es) - 1) (y ∷ es))) in
    omega (arith, later, but, a, b, c, d)

-- a key with a note
abbrev pub noted : TileKey → TileRecord → Option (TileKey × TileRecord)
noted key note = Some (key, note)

-- a tile was given up: there were more than the budget, and it was the last
pub record IsPopped (budget : ℕ) (tiles : Tiles) (key : TileKey) (note : TileRecord) : Type 0 where
  pub more : budget < length tiles
  pub left : popped_over budget tiles ≡ take (length tiles - 1) tiles
  pub claimed : (k : ℕ) → times k (claims tiles) ≡ times k (record_keys note ++ claims (take (length tiles - 1) tiles))

pub popped : (budget : ℕ) (tiles : Tiles) (key : TileKey) (note : TileRecord) → noted key note ≡ least_recent_over budget tiles → IsPopped budget tiles key note
popped budget tiles key note h = by_test (ltb budget (length tiles)) refl
  where
    from_last : (o : Option (TileKey × Tile TileRecord)) → last_entry tiles ≡ o → noted key note ≡ option_map (λ e. (e.0, e.1.note)) o → (k : ℕ) → times k (claims tiles) ≡ times k (record_keys note ++ claims (take (length tiles - 1) tiles))
    from_last None e f k = absurd cc
    from_last (Some x) e f k =
        let same : note ≡ x.1.note = ap (λ (o : Option (TileKey × TileRecord)). option_map_or (λ (p : TileKey × TileRecord). p.1) o note) f in
        claims_last tiles x e k ∙ ap (λ (n : TileRecord). times k (record_keys n ++ claims (take (length tiles - 1) tiles))) (sym same)

    by_test : (t : Bool) → ltb budget (length tiles) ≡ t → IsPopped budget tiles key note
    by_test true e = record { more = ltb-true budget (length tiles) e; left = rw e refl; claimed = from_last (last_entry tiles) refl (rw e at h) }
    by_test false e = absurd (let none = rw e at h in cc)

module _ (a b : Interning) (budget : ℕ) (old new : Store) (key : TileKey) (note : TileRecord) (is : IsPopped budget old.tiles key note) (left : new ≡ record old { tiles = popped_over budget old.tiles }) (h : Moves a b (record_keys note) []) (c : Covers a (claims old.tiles)) where
  tiles_are : new.tiles ≡ take (length old.tiles - 1) old.tiles
  tiles_are = ap (λ (x : Store). x.tiles) left ∙ is.left

  set_apart : Covers a (record_keys note ++ claims (take (length old.tiles - 1) old.tiles))
  set_apart = same_claims a (claims old.tiles) (record_keys note ++ claims (take (length old.tiles - 1) old.tiles)) is.claimed c

  pub popped_covers : Covers b (claims new.tiles)
  popped_covers = subst (λ (l : Tiles). Covers b (claims l)) (sym tiles_are) (h.covers (claims (take (length old.tiles - 1) old.tiles)) set_apart)

  pub popped_kept : take budget (all_valued b new.tiles) ≡ take budget (all_valued a old.tiles)
  popped_kept =
      let few : budget ≤ length old.tiles - 1 = (let m = is.more in omega (arith, m)) in
      ap (λ (l : Tiles). take budget (all_valued b l)) tiles_are
      ∙ ap (take budget) (valued_same a b (take (length old.tiles - 1) old.tiles) (h.entries (claims (take (length old.tiles - 1) old.tiles)) set_apart) ∙ valued_take a (length old.tiles - 1) old.tiles)
      ∙ take_twice budget (length old.tiles - 1) (all_valued a old.tiles) few

  pub popped_fewer : length new.tiles < length old.tiles
  popped_fewer =
      let m = is.more in
      let e = ap (λ (l : Tiles). length l) tiles_are in
      let f = length-take (length old.tiles - 1) old.tiles in
      omega (arith, m, e, f)
