-- The tiles of the next scene, drawn or left where memory ran out.
use Rattle.std.proofs.Common.{◌≡◌, ◌≤◌, ℕ, Bool, true, false, take, if◌then◌else◌, Option, Some, None, IfSome, refl, sym, subst, arith}
use Rattle.wr_geom.specs.declared.keys.TileKey.{TileKey}
use Rattle.image_store.specs.StoreModel.{IsStore, StoreModel}
use Rattle.tile_grid.specs.Tiles.{tile_rect}
use Rattle.tile_grid.specs.declared.tile.TileSides.{TileSides}
use Rattle.tile_store.specs.Laws.{HaveOwnKeys}
use Rattle.kept_tiles.specs.Progress.{KeepsSound}
use Rattle.kept_tiles.specs.Showing.{AreAllCurrent, AreApart, AreShown, WorkShows}
use Rattle.kept_tiles.specs.Sound.{AreSound, IsSound}
use Rattle.kept_tiles.specs.Steps.{ArePlaced}
use Rattle.kept_tiles.specs.Tiles.{KeptModel, KeptTile, KeptTiles, kept_at, kept_of}
use Rattle.kept_tiles.specs.Work.{IsWorkDone, work_on}
use Rattle.scene_state.specs.SceneModel.{SceneModel}
use Rattle.renderer.specs.Drops.{has_sides, sides_of}
use Rattle.renderer.specs.Frames.{scene_tiles}
use Rattle.renderer.specs.Kept.{IsFresh}
use Rattle.renderer.specs.Showing.{IsReady}
use Rattle.renderer.proofs.Keys.{own_keys}
use Rattle.renderer.proofs.Operations.{sides_same}
use Rattle.renderer.proofs.Readying.{agrees_itself}
use Rattle.renderer.proofs.Trimming.{few_taken, sound_none, sound_taken}

module _ (old next : SceneModel) (last : ℕ) (before after : KeptModel) (ready : IsReady old next last before) (keeps : KeepsSound (sides_of next.policy) next.store before after) (whole : IsStore next.store) where
  -- what was drawn is sound for the next scene
  pub drawn_sound : AreSound (sides_of next.policy) last next.store (kept_of after)
  drawn_sound = keeps.sound last next.store whole whole ready.after.stored (agrees_itself next.store) ready.after.sound ready.after.sound

  pub drawn_shown : WorkShows → HaveOwnKeys before.store.tiles → IsWorkDone before after (work_on before (scene_tiles next)) → AreApart (scene_tiles next) → AreAllCurrent next.store (scene_tiles next)
      → AreShown next.store (kept_of after) (scene_tiles next)
  drawn_shown shows keys work apart current =
      shows (sides_of next.policy) last next.store before after (scene_tiles next) drawn_sound work (own_keys before.interner before.store.tiles keys) apart current

  -- and for the scene as it stands, where both have tiles of the same sides
  back_sound : IsStore old.store → sides_of old.policy ≡ sides_of next.policy → AreSound (sides_of old.policy) last old.store (kept_of after)
  back_sound stands same =
      let was = subst (λ (s : TileSides). AreSound s last old.store (kept_of before)) same ready.before.sound in
      subst (λ (s : TileSides). AreSound s last old.store (kept_of after)) (sym same)
      (keeps.sound last old.store whole stands ready.after.stored ready.agrees ready.after.sound was)

  -- what is left where memory ran out is fresh for the scene as it stands
  pub left_fresh : IsStore old.store → old.policy.budget ≤ 65536 → (left : KeptModel) → kept_of left ≡ take (if has_sides old.policy next.policy.tw next.policy.th then old.policy.budget else 0) (kept_of after) → IsFresh old last left
  left_fresh stands most left h = by_sides (has_sides old.policy next.policy.tw next.policy.th) refl
    where
      by_sides : (b : Bool) → has_sides old.policy next.policy.tw next.policy.th ≡ b → IsFresh old last left
      by_sides true e =
          let is : kept_of left ≡ take old.policy.budget (kept_of after) = rw e at h in
          let same = sides_same old.policy next.policy.tw next.policy.th e in
          let few = few_taken old.policy.budget after left is in
          record {
            stored = ready.before.stored;
            sound = subst (AreSound (sides_of old.policy) last old.store) (sym is) (sound_taken (sides_of old.policy) last old.store old.policy.budget (kept_of after) (back_sound stands same));
            few = omega (arith, few, most);
          }
      by_sides false e =
          let is : kept_of left ≡ take 0 (kept_of after) = rw e at h in
          let few = few_taken 0 after left is in
          record {
            stored = ready.before.stored;
            sound = subst (AreSound (sides_of old.policy) last old.store) (sym is) (sound_none (sides_of old.policy) last old.store);
            few = omega (arith, few);
          }

-- sound tiles have the rectangles of their keys
placed_at : (sides : TileSides) (n : ℕ) (store : StoreModel) (key : TileKey) (o : Option KeptTile) → IfSome o (λ tile. IsSound sides n store key tile) → IfSome o (λ tile. tile.rect ≡ tile_rect sides key.col key.row)
placed_at sides n store key None h = tt
placed_at sides n store key (Some tile) h = h.rect

pub sound_placed : (sides : TileSides) (n : ℕ) (store : StoreModel) (tiles : KeptTiles) → AreSound sides n store tiles → ArePlaced sides tiles
sound_placed sides n store tiles s key = placed_at sides n store key (kept_at key tiles) (s key)
