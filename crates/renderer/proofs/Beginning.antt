-- A renderer before the first transaction.
use Rattle.std.proofs.Common.{◌≡◌, ℕ, Option, Some, None, ap, ◌∙◌, arith}
use Rattle.std.specs.FinMap as map
use Rattle.std.specs.Ordering.{nat_cmp}
use Rattle.image_store.specs.Laws.{IsUpTo}
use Rattle.containers.specs.PairOrder.{pair_cmp}
use Rattle.image_store.specs.StoreModel.{Images, Masks, empty_store, glyph_at, image_at, or_empty}
use Rattle.kept_tiles.specs.Tiles.{KeptModel}
use Rattle.scene_state.specs.SceneModel.{SceneModel, start}
use Rattle.renderer.specs.Kept.{IsFresh}
use Rattle.renderer.specs.RendererModel.{none_kept}

no_some : {X : Type 0} (o : Option X) (x : X) → o ≡ None → o ≡ Some x → ⊥
no_some o x a b = cc

-- nothing is stored at the start
none_stored : IsUpTo 0 empty_store
none_stored = record {
  images = λ p k image h.
      absurd (no_some (image_at empty_store p k) image (ap (λ (m : Option Images). map.get (or_empty m) k) (map.get-empty nat_cmp p) ∙ map.get-empty nat_cmp k) h);
  masks = λ p f g mask h.
      absurd (no_some (glyph_at empty_store p f g) mask (ap (λ (m : Option Masks). map.get (or_empty m) g) (map.get-empty pair_cmp (p, f)) ∙ map.get-empty nat_cmp g) h);
}

start_fresh : IsFresh start 0 none_kept
start_fresh = record {
  stored = none_stored;
  sound = λ key. tt;
  few = omega arith;
}

pub fresh_start : (scene : SceneModel) (last : ℕ) (kept : KeptModel) → scene ≡ start → last ≡ 0 → kept ≡ none_kept → IsFresh scene last kept
fresh_start scene last kept s n k = rw (s, n, k) start_fresh
