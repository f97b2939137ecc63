-- What is kept once a transaction stands, before its frame is drawn.
use Rattle.std.proofs.Common.{◌≡◌, ◌≤◌, ℕ, Bool, true, false, [], length, Ok, if◌then◌else◌, refl, sym, ap, subst, arith}
use Rattle.image_store.specs.Laws.{IsUpTo}
use Rattle.image_store.specs.StoreModel.{IsStore, StoreModel}
use Rattle.tile_grid.specs.declared.tile.TileSides.{TileSides}
use Rattle.txn_format.specs.Txn.{TxnModel}
use Rattle.kept_tiles.specs.Sound.{Agrees, AreSound}
use Rattle.kept_tiles.specs.Tiles.{KeptModel, KeptTiles, kept_of}
use Rattle.kept_tiles.specs.Work.{records_of}
use Rattle.scene_state.specs.SceneModel.{SceneModel}
use Rattle.scene_state.specs.Limits.{next_scene}
use Rattle.scene_resources.specs.Laws.{NextCounterIsABound, StoresAgree, TilesAreSoundAbove, TilesStaySound}
use Rattle.renderer.specs.Drops.{any_gives_up, sides_of, tiles_left}
use Rattle.renderer.specs.Kept.{IsFresh}
use Rattle.renderer.specs.Showing.{IsReady}
use Rattle.renderer.proofs.Operations.{next_sides}
use Rattle.renderer.proofs.Trimming.{count_kept, sound_none}

pub up_to_more : (last counter : ℕ) (store : StoreModel) → last ≤ counter → IsUpTo last store → IsUpTo counter store
up_to_more last counter store least u = record {
  images = λ p k image h. (let i = u.images p k image h in omega (arith, least, i));
  masks = λ p f g mask h. (let i = u.masks p f g mask h in omega (arith, least, i));
}

-- a store agrees with itself
pub agrees_itself : (store : StoreModel) → Agrees store store
agrees_itself store = record { images = λ p k g a b. refl; masks = λ p f k g a b. refl }

-- what the laws of the next scene say of tiles that were sound
pub record StaySound (old next : SceneModel) (last counter : ℕ) : Type 0 where
  pub least : last ≤ counter
  pub bound : IsUpTo counter next.store
  pub agrees : Agrees next.store old.store
  pub sound : (tiles : KeptTiles) → AreSound (sides_of old.policy) last old.store tiles → AreSound (sides_of old.policy) counter next.store tiles
  pub above : (tiles : KeptTiles) → AreSound (sides_of old.policy) last old.store tiles → AreSound (sides_of old.policy) counter old.store tiles

module _ (t : TxnModel) (old next : SceneModel) (last counter : ℕ) (kept left : KeptModel) (stay : StaySound old next last counter) (fresh : IsFresh old last kept) where
  -- where all tiles were given up
  ready_none : kept_of left ≡ [] → IsReady old next counter left
  ready_none none =
      let few = count_kept left in
      let zero = ap (λ (l : KeptTiles). length l) none in
      record {
        before = record {
          stored = up_to_more last counter old.store stay.least fresh.stored;
          sound = subst (AreSound (sides_of old.policy) counter old.store) (sym none) (sound_none (sides_of old.policy) counter old.store);
          few = omega (arith, few, zero);
        };
        after = record {
          stored = stay.bound;
          sound = subst (AreSound (sides_of next.policy) counter next.store) (sym none) (sound_none (sides_of next.policy) counter next.store);
          few = omega (arith, few, zero);
        };
        agrees = stay.agrees;
      }

  -- where they stay
  ready_same : kept_of left ≡ kept_of kept → sides_of next.policy ≡ sides_of old.policy → IsReady old next counter left
  ready_same same sides =
      let a = count_kept left in
      let b = count_kept kept in
      let c = ap (λ (l : KeptTiles). length l) same in
      let f = fresh.few in
      record {
        before = record {
          stored = up_to_more last counter old.store stay.least fresh.stored;
          sound = subst (AreSound (sides_of old.policy) counter old.store) (sym same) (stay.above (kept_of kept) fresh.sound);
          few = omega (arith, a, b, c, f);
        };
        after = record {
          stored = stay.bound;
          sound = subst (λ (s : TileSides). AreSound s counter next.store (kept_of left)) (sym sides) (subst (AreSound (sides_of old.policy) counter next.store) (sym same) (stay.sound (kept_of kept) fresh.sound));
          few = omega (arith, a, b, c, f);
        };
        agrees = stay.agrees;
      }

  pub ready : next_scene t old last ≡ Ok (next, counter) → kept_of left ≡ tiles_left t old.policy (kept_of kept) → IsReady old next counter left
  ready is h = by_drop (any_gives_up t.ops old.policy) refl
    where
      by_drop : (b : Bool) → any_gives_up t.ops old.policy ≡ b → IsReady old next counter left
      by_drop true e = ready_none (rw e at h)
      by_drop false e = ready_same (rw e at h) (next_sides t old next last counter is e)

-- the records of what is left are what is left of the records
pub records_left : (t : TxnModel) (old : SceneModel) (tiles : KeptTiles) → records_of (tiles_left t old.policy tiles) ≡ tiles_left t old.policy (records_of tiles)
records_left t old tiles = by_drop (any_gives_up t.ops old.policy)
  where
    by_drop : (b : Bool) → records_of (if b then [] else tiles) ≡ (if b then [] else records_of tiles)
    by_drop true = refl
    by_drop false = refl

-- the laws give what stays sound
pub stay_by : (t : TxnModel) (old next : SceneModel) (last counter : ℕ) → NextCounterIsABound → StoresAgree → TilesStaySound → TilesAreSoundAbove
    → IsUpTo last old.store → IsStore old.store → IsStore next.store → next_scene t old last ≡ Ok (next, counter) → StaySound old next last counter
stay_by t old next last counter counts agree sound above stored whole new is =
    let n = counts t old next last counter is stored in
    record {
      least = n.least;
      bound = n.bound;
      agrees = (agree t old next last counter is stored).1;
      sound = λ tiles s. sound t old next last counter (sides_of old.policy) tiles is stored whole new s;
      above = λ tiles s. above (sides_of old.policy) last counter old.store tiles n.least s;
    }
