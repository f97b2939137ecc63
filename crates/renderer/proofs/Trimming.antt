-- The most recent of kept tiles.
use Rattle.std.proofs.Common.{◌≡◌, ◌≤◌, ℕ, zero, suc, true, false, [], ◌∷◌, length, length-take, take, Option, Some, None, IfSome, refl, sym, ap, subst, arith}
use Rattle.std.proofs.lemmas.List.{take-map}
use Rattle.wr_geom.specs.declared.keys.TileKey.{TileKey}
use Rattle.image_store.specs.StoreModel.{StoreModel}
use Rattle.tile_grid.specs.declared.tile.TileSides.{TileSides}
use Rattle.tile_store.specs.Keys.{same_key}
use Rattle.kept_tiles.specs.Sound.{AreSound, IsSound}
use Rattle.kept_tiles.specs.Tiles.{KeptModel, KeptTile, KeptTiles, kept_at, kept_of}
use Rattle.kept_tiles.specs.Work.{records_of}
use Rattle.kept_tiles.proofs.Working.{length_valued}

-- what is among the most recent is kept
taken_at : (n : ℕ) (key : TileKey) (tiles : KeptTiles) (tile : KeptTile) → kept_at key (take n tiles) ≡ Some tile → kept_at key tiles ≡ Some tile
taken_at zero key tiles tile h = absurd cc
taken_at (suc n) key [] tile h = absurd cc
taken_at (suc n) key (e ∷ es) tile h = (elim (same_key key e.0) as (λ y. same_key key e.0 ≡ y → kept_at key (e ∷ es) ≡ Some tile) [
  | true ↦ λ t. rw t (rw t at h)
  | false ↦ λ t. rw t (taken_at n key es tile (rw t at h))
]) refl

module _ (sides : TileSides) (n : ℕ) (store : StoreModel) where
  sound_at : (key : TileKey) (tiles : KeptTiles) (taken : Option KeptTile) → ((tile : KeptTile) → taken ≡ Some tile → kept_at key tiles ≡ Some tile) → AreSound sides n store tiles
      → IfSome taken (λ tile. IsSound sides n store key tile)
  sound_at key tiles None f s = tt
  sound_at key tiles (Some tile) f s = subst (λ (o : Option KeptTile). IfSome o (λ t. IsSound sides n store key t)) (f tile refl) (s key)

  pub sound_taken : (budget : ℕ) (tiles : KeptTiles) → AreSound sides n store tiles → AreSound sides n store (take budget tiles)
  sound_taken budget tiles s key = sound_at key tiles (kept_at key (take budget tiles)) (taken_at budget key tiles) s

  pub sound_none : AreSound sides n store []
  sound_none key = tt

pub records_taken : (budget : ℕ) (tiles : KeptTiles) → records_of (take budget tiles) ≡ take budget (records_of tiles)
records_taken budget tiles = sym (take-map (λ (e : TileKey × KeptTile). (e.0, e.1.entries)) budget tiles)

-- as many tiles are stored as are kept
pub count_kept : (k : KeptModel) → length (kept_of k) ≡ length k.store.tiles
count_kept k = length_valued k.interner k.store.tiles

pub few_taken : (budget : ℕ) (old new : KeptModel) → kept_of new ≡ take budget (kept_of old) → length new.store.tiles ≤ budget
few_taken budget old new h =
    let a = count_kept new in
    let b = ap (λ (l : KeptTiles). length l) h in
    let c = length-take budget (kept_of old) in
    omega (arith, a, b, c)
