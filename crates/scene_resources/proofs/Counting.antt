-- What a transaction's operations do to the counter of generations and to what is stored.
use Rattle.std.proofs.Common.{◌≡◌, ◌⊎◌, inl, inr, ℕ, ◌+◌, ◌≤◌, ◌<◌, List, [], ◌∷◌, Option, Some, None, Result, Ok, Err, refl, sym, ap, subst, arith}
use Rattle.wr_io.specs.declared.fault.Code.{Code}
use Rattle.wr_io.specs.declared.fault.Fault.{Fault}
use Rattle.display_list.specs.ListModel.{ListModel}
use Rattle.display_list.specs.Decoding.{list_at}
use Rattle.image_store.specs.Models.{ImageModel, MaskModel}
use Rattle.image_store.specs.StoreModel.{StoreModel, image_at, glyph_at, without_font}
use Rattle.image_store.specs.Changes.{image_added, image_updated, image_deleted, glyph_added}
use Rattle.image_store.specs.Laws.{IsStep, IsNextStep, IsUpTo}
use Rattle.image_store.specs.declared.error.StoreError.{StoreError}
use Rattle.image_store.proofs.Steps.{adding_is_a_step, updating_is_a_step, adding_glyph_is_a_step, deleting_is_a_step, deleting_font_is_a_step, steps_keep_bound}
use Rattle.txn_format.specs.Txn.{OpModel, PlacedModel, TxnModel, set_list, remove_pipeline, scroll, set_offset, set_opacity, add_image, update_image, delete_image, add_glyph, delete_font, set_view, tile_policy, drop_tiles}
use Rattle.scene_state.specs.SceneModel.{SceneModel}
use Rattle.scene_state.specs.Limits.{limit_of, where_none, next_scene}
use Rattle.scene_state.specs.Operations.{Next, after_op, after_ops, then_next, where_read, where_changed, where_removed}
use Rattle.scene_resources.specs.Additions.{added_by, additions}
use Rattle.scene_resources.specs.Laws.{NextCounterIsABound}

-- ---- resources that stood before, or are new

-- each resource stood before under its key, or has a generation above the last one
pub record IsLater (old new : StoreModel) (last : ℕ) : Type 0 where
  pub images : (p k : ℕ) (image : ImageModel) → image_at new p k ≡ Some image → (image_at old p k ≡ Some image) ⊎ (last < image.generation)
  pub masks : (p f g : ℕ) (mask : MaskModel) → glyph_at new p f g ≡ Some mask → (glyph_at old p f g ≡ Some mask) ⊎ (last < mask.generation)

stay_later : (store : StoreModel) (last : ℕ) → IsLater store store last
stay_later store last = record { images = λ p k image h. inl h; masks = λ p f g mask h. inl h }

above : {A : Type 0} (g generation last : ℕ) → last < generation → A ⊎ (g ≡ generation) → A ⊎ (last < g)
above g generation last lt (inl a) = inl a
above g generation last lt (inr e) = inr (subst (λ (z : ℕ). last < z) (sym e) lt)

step_later : (old new : StoreModel) (last generation : ℕ) → last < generation → IsStep old new generation → IsLater old new last
step_later old new last generation lt h = record {
  images = λ p k image e. above image.generation generation last lt (h.images p k image e);
  masks = λ p f g mask e. above mask.generation generation last lt (h.masks p f g mask e);
}

earlier_still : {A B : Type 0} (g last mid : ℕ) → last ≤ mid → (B → A ⊎ (last < g)) → B ⊎ (mid < g) → A ⊎ (last < g)
earlier_still g last mid le before (inl b) = before b
earlier_still g last mid le before (inr lt) = inr (omega (arith, le, lt))

both_later : (a b c : StoreModel) (last mid : ℕ) → last ≤ mid → IsLater a b last → IsLater b c mid → IsLater a c last
both_later a b c last mid le h j = record {
  images = λ p k image e. earlier_still image.generation last mid le (h.images p k image) (j.images p k image e);
  masks = λ p f g mask e. earlier_still mask.generation last mid le (h.masks p f g mask) (j.masks p f g mask e);
}

-- ---- counters

-- a store and a counter, changed by so many additions
pub record Moves (count last next : ℕ) (old new : StoreModel) : Type 0 where
  pub least : last ≤ next
  pub most : next ≤ last + count
  pub bound : IsUpTo last old → IsUpTo next new
  pub later : IsLater old new last

moves_not : (last : ℕ) (store : StoreModel) → Moves 0 last last store store
moves_not last store = record { least = omega arith; most = omega arith; bound = λ up. up; later = stay_later store last }

moves_down : (last : ℕ) (old new : StoreModel) → ((generation : ℕ) → IsStep old new generation) → Moves 0 last last old new
moves_down last old new step = record {
  least = omega arith;
  most = omega arith;
  bound = λ up. steps_keep_bound old new last last up (step last) (omega arith);
  later = step_later old new last (last + 1) (omega arith) (step (last + 1));
}

moves_up : (last next : ℕ) (old new : StoreModel) → IsNextStep old new last next → Moves 1 last next old new
moves_up last next old new h =
    let e = h.next in
    record {
      least = omega (arith, e);
      most = omega (arith, e);
      bound = λ up. steps_keep_bound old new last next up h.step (omega (arith, e));
      later = step_later old new last next (omega (arith, e)) h.step;
    }

moves_on : (m n last mid next : ℕ) (a b c : StoreModel) → Moves m last mid a b → Moves n mid next b c → Moves (m + n) last next a c
moves_on m n last mid next a b c h j =
    let l = h.least in
    let k = j.least in
    let u = h.most in
    let v = j.most in
    record {
      least = omega (arith, l, k);
      most = omega (arith, u, v);
      bound = λ up. j.bound (h.bound up);
      later = both_later a b c last mid l h.later j.later;
    }

-- ---- operations

abbrev next_or : SceneModel × ℕ → Next → SceneModel × ℕ
next_or default (Ok made) = made
next_or default (Err f) = default

-- a scene and a counter that were made are those that came out
made_is : (made out : SceneModel × ℕ) → (let n : Next = Ok made in n) ≡ Ok out → made ≡ out
made_is made out e = ap (next_or made) e

moved_to : (count last : ℕ) (old : StoreModel) (made out : SceneModel × ℕ) → made ≡ out → Moves count last made.1 old made.0.store → Moves count last out.1 old out.0.store
moved_to count last old made out e h = subst (λ (m : SceneModel × ℕ). Moves count last m.1 old m.0.store) e h

module _ (s : SceneModel) (last : ℕ) (out : SceneModel × ℕ) where
  -- the scene that was made stores what the old one does
  stored_alike : (made : SceneModel) → made.store ≡ s.store → (let n : Next = Ok (made, last) in n) ≡ Ok out → Moves 0 last out.1 s.store out.0.store
  stored_alike made same e =
      moved_to 0 last s.store (made, last) out (made_is (made, last) out e) (subst (λ (store : StoreModel). Moves 0 last last s.store store) (sym same) (moves_not last s.store))

  stored_less : (made : SceneModel) → ((generation : ℕ) → IsStep s.store made.store generation) → (let n : Next = Ok (made, last) in n) ≡ Ok out → Moves 0 last out.1 s.store out.0.store
  stored_less made step e = moved_to 0 last s.store (made, last) out (made_is (made, last) out e) (moves_down last s.store made.store step)

  list_read : (p position epoch : ℕ) (r : Result ListModel Fault) → where_read p position epoch r s last ≡ Ok out → Moves 0 last out.1 s.store out.0.store
  list_read p position epoch (Ok list) e = stored_alike _ refl e
  list_read p position epoch (Err f) e = absurd cc

  store_changed : (fault : StoreError → Fault) (r : Result (StoreModel × ℕ) StoreError) → ((store : StoreModel) (next : ℕ) → r ≡ Ok (store, next) → IsNextStep s.store store last next)
      → where_changed fault r s ≡ Ok out → Moves 1 last out.1 s.store out.0.store
  store_changed fault (Ok made) step e =
      moved_to 1 last s.store (record s { store = made.0 }, made.1) out (made_is (record s { store = made.0 }, made.1) out e)
      (moves_up last made.1 s.store made.0 (step made.0 made.1 refl))
  store_changed fault (Err f) step e = absurd cc

  store_lessened : (fault : StoreError → Fault) (r : Result StoreModel StoreError) → ((store : StoreModel) (generation : ℕ) → r ≡ Ok store → IsStep s.store store generation)
      → where_removed fault r s last ≡ Ok out → Moves 0 last out.1 s.store out.0.store
  store_lessened fault (Ok store) step e = stored_less (record s { store = store }) (λ generation. step store generation refl) e
  store_lessened fault (Err f) step e = absurd cc

  op_moves : (p at : ℕ) (op : OpModel) → after_op p at op s last ≡ Ok out → Moves (added_by op) last out.1 s.store out.0.store
  op_moves p at (set_list epoch bytes) e = list_read p (at + 9) epoch (list_at p bytes) e
  op_moves p at remove_pipeline e = stored_alike _ refl e
  op_moves p at (scroll sid x y) e = stored_alike _ refl e
  op_moves p at (set_offset id x y) e = stored_alike _ refl e
  op_moves p at (set_opacity id opacity) e = stored_alike _ refl e
  op_moves p at (add_image key w h pixels) e =
      store_changed _ (image_added p key w h pixels s.store last) (λ store next. adding_is_a_step p key w h pixels s.store store last next) e
  op_moves p at (update_image key x y w h pixels) e =
      store_changed _ (image_updated p key (record { x = x; y = y; w = w; h = h }) pixels s.store last)
      (λ store next. updating_is_a_step p key (record { x = x; y = y; w = w; h = h }) pixels s.store store last next) e
  op_moves p at (delete_image key) e = store_lessened _ (image_deleted p key s.store) (λ store generation. deleting_is_a_step p key s.store store generation) e
  op_moves p at (add_glyph font glyph w h mask) e =
      store_changed _ (glyph_added p font glyph w h mask s.store last) (λ store next. adding_glyph_is_a_step p font glyph w h mask s.store store last next) e
  op_moves p at (delete_font font) e = stored_less (record s { store = without_font p font s.store }) (deleting_font_is_a_step p font s.store) e
  op_moves p at (set_view w h clear) e = stored_alike _ refl e
  op_moves p at (tile_policy tw th budget) e = stored_alike _ refl e
  op_moves p at drop_tiles e = stored_alike s refl e

-- ---- all operations

then_moves : (m n last : ℕ) (old : StoreModel) (r : Next) (follows : SceneModel → ℕ → Next) (out : SceneModel × ℕ)
    → ((made : SceneModel × ℕ) → r ≡ Ok made → Moves m last made.1 old made.0.store)
    → ((s : SceneModel) (counter : ℕ) → follows s counter ≡ Ok out → Moves n counter out.1 s.store out.0.store)
    → then_next r follows ≡ Ok out → Moves (m + n) last out.1 old out.0.store
then_moves m n last old (Ok made) follows out first rest e =
    moves_on m n last made.1 out.1 old made.0.store out.0.store (first made refl) (rest made.0 made.1 e)
then_moves m n last old (Err f) follows out first rest e = absurd cc

ops_move : (p : ℕ) (os : List PlacedModel) (s : SceneModel) (last : ℕ) (out : SceneModel × ℕ) → after_ops p os s last ≡ Ok out → Moves (additions os) last out.1 s.store out.0.store
ops_move p [] s last out e = stored_alike s last out s refl e
ops_move p (o ∷ os) s last out e =
    then_moves (added_by o.op) (additions os) last s.store (after_op p o.at o.op s last) (after_ops p os) out
    (λ made h. op_moves s last made p o.at o.op h) (λ t counter h. ops_move p os t counter out h) e

limits_leave : (o : Option Code) (position : ℕ) (s : SceneModel) (counter : ℕ) (out : SceneModel × ℕ) → where_none o position s counter ≡ Ok out → Moves 0 counter out.1 s.store out.0.store
limits_leave None position s counter out e = stored_alike s counter out s refl e
limits_leave (Some code) position s counter out e = absurd cc

pub next_moves : (t : TxnModel) (old new : SceneModel) (last next : ℕ) → next_scene t old last ≡ Ok (new, next) → Moves (additions t.ops) last next old.store new.store
next_moves t old new last next e =
    let all = then_moves (additions t.ops) 0 last old.store (after_ops t.pipeline t.ops old last) (λ made counter. where_none (limit_of made) t.len made counter) (new, next)
    (λ made h. ops_move t.pipeline t.ops old last made h) (λ s counter h. limits_leave (limit_of s) t.len s counter (new, next) h) e in
    record { least = all.least; most = (let most = all.most in omega (arith, most)); bound = all.bound; later = all.later }

pub next_counter_is_a_bound : NextCounterIsABound
next_counter_is_a_bound t old new last next e up =
    let moves = next_moves t old new last next e in
    record { bound = moves.bound up; least = moves.least; most = moves.most }
