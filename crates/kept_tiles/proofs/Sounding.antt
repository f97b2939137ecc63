-- Sound tiles stay sound.
use Rattle.std.proofs.Common.{◌≡◌, ℕ, Bool, true, false, List, [], ◌∷◌, Option, Some, None, IfSome, All, IsTrue, IsFalse, ℤ, ◌⊎◌, inl, inr, refl, sym, ap, subst, ◌∙◌, true≢false, rules}
use Rattle.wr_geom.specs.Bounds.{Bounds, holds}
use Rattle.wr_geom.specs.declared.keys.TileKey.{TileKey}
use Rattle.blend_rules.specs.Colour.{IsPixel}
use Rattle.image_store.specs.StoreModel.{StoreModel, IsStore}
use Rattle.image_store.specs.Laws.{IsUpTo}
use Rattle.primitives.specs.Facts.{IsEntry}
use Rattle.primitives.specs.Laws.{ClearWhereNotVisible, RunKeepsPixels}
use Rattle.primitives.specs.Stacks.{empty_stack, value_at}
use Rattle.primitives.specs.declared.entry.Entry.{Entry}
use Rattle.tile_grid.specs.Tiles.{tile_rect}
use Rattle.tile_grid.specs.declared.tile.TileSides.{TileSides}
use Rattle.tile_records.specs.Dirt.{dirt}
use Rattle.tile_records.specs.Laws.{NothingIsStale}
use Rattle.tile_records.specs.Right.{IsCurrentAt}
use Rattle.tile_store.specs.Keys.{same_key}
use Rattle.tile_store.proofs.Keys.{key_same}
use Rattle.kept_tiles.specs.Tiles.{KeptTile, KeptTiles, KeptModel, colour_of, kept_of, kept_at, kept_without}
use Rattle.kept_tiles.specs.Sound.{IsNamedUpTo, IsSound, AreSound, Agrees}
use Rattle.kept_tiles.specs.Progress.{KeepsSound}
use Rattle.kept_tiles.specs.Steps.{AreDrawable, ArePlaced, ReachedFrom, IsHeaded, IsShown}
use Rattle.kept_tiles.proofs.Agreement.{value_same, current_at, named_up_to}

-- ---- what is looked up

pub other_at : (k j : TileKey) (es : KeptTiles) → same_key k j ≡ false → kept_at k (kept_without j es) ≡ kept_at k es
other_at k j [] h = refl
other_at k j (e ∷ es) h = (elim (same_key j e.0) as (λ y. same_key j e.0 ≡ y → kept_at k (kept_without j (e ∷ es)) ≡ kept_at k (e ∷ es)) [
  | true ↦ λ t. let n : same_key k e.0 ≡ false = subst (λ (x : TileKey). same_key k x ≡ false) (key_same j e.0 t) h in rw t (rw n refl)
  | false ↦ λ t. rw t ((elim (same_key k e.0) as (λ y. same_key k e.0 ≡ y → kept_at k (e ∷ kept_without j es) ≡ kept_at k (e ∷ es)) [
    | true ↦ λ u. rw u refl
    | false ↦ λ u. rw u (other_at k j es h)
  ]) refl)
]) refl

-- what holds of each tile, for a tile that goes first and for all others
pub each_first : (P : TileKey → KeptTile → Type 0) (key : TileKey) (tile : KeptTile) (es : KeptTiles) → P key tile → ((k : TileKey) → IfSome (kept_at k es) (P k))
    → (k : TileKey) → IfSome (kept_at k ((key, tile) ∷ kept_without key es)) (P k)
each_first P key tile es own all k = (elim (same_key k key) as (λ y. same_key k key ≡ y → IfSome (kept_at k ((key, tile) ∷ kept_without key es)) (P k)) [
  | true ↦ λ t. rw t (subst (λ (j : TileKey). P j tile) (sym (key_same k key t)) own)
  | false ↦ λ t. rw t (subst (λ (o : Option KeptTile). IfSome o (P k)) (sym (other_at k key es t)) (all k))
]) refl

pub if_some : (o : Option KeptTile) (P : KeptTile → Type 0) (t : KeptTile) → o ≡ Some t → IfSome o P → P t
if_some o P t e h = subst (λ (x : Option KeptTile). IfSome x P) e h

-- ---- what a reached tile shows outside of the part that is drawn

pixel_value : (store : StoreModel) (es : List Entry) (x y : ℤ) → RunKeepsPixels → IsStore store → All IsEntry es → IsPixel (value_at es store x y)
pixel_value store es x y keeps is good = (keeps store x y es empty_stack is good (search rules)).top

-- what is known of a reached tile
record Ready (store : StoreModel) (t : KeptTile) (entries : List Entry) (rect part : Bounds) : Type 0 where
  rect_is : t.rect ≡ rect
  fresh : (x y : ℤ) → IsTrue (holds t.rect x y) → IsFalse (holds part x y) → colour_of t x y ≡ value_at entries store x y

ready_by : (sides : TileSides) (n : ℕ) (store : StoreModel) (es : KeptTiles) (key : TileKey) (o : Option KeptTile) (t : KeptTile) (entries : List Entry) (rect part : Bounds)
    → NothingIsStale → IsStore store → kept_at key es ≡ o → AreSound sides n store es → AreDrawable store entries → rect ≡ tile_rect sides key.col key.row
    → ReachedFrom o t entries rect part → Ready store t entries rect part
ready_by sides n store es key None t entries rect part stale is e sound draws placed h = record {
  rect_is = ap (λ (u : KeptTile). u.rect) h.tile_is;
  fresh = λ x y inside beside. absurd (true≢false (sym inside ∙ ap (λ (b : Bounds). holds b x y) (ap (λ (u : KeptTile). u.rect) h.tile_is ∙ sym h.part_is) ∙ beside));
}
ready_by sides n store es key (Some was) t entries rect part stale is e sound draws placed h =
    let s = if_some (kept_at key es) (λ u. IsSound sides n store key u) was e (sound key) in
    let r : was.rect ≡ rect = s.rect ∙ sym placed in
    record {
      rect_is = ap (λ (u : KeptTile). u.rect) h.same ∙ r;
      fresh = λ x y inside beside.
          let at_was : IsTrue (holds was.rect x y) = subst (λ (u : KeptTile). IsTrue (holds u.rect x y)) h.same inside in
          let off : IsFalse (holds (dirt was.entries entries was.rect) x y) = subst (λ (b : Bounds). IsFalse (holds b x y)) (h.part_is ∙ ap (dirt was.entries entries) (sym r)) beside in
          ap (λ (u : KeptTile). colour_of u x y) h.same
          ∙ stale store (colour_of was) was.entries entries was.rect x y is s.good draws.good s.right (current_at store x y entries draws.current) at_was off;
    }

-- the same place on the other side of a test
split_at : (b : Bool) → (b ≡ true) ⊎ (b ≡ false)
split_at true = inl refl
split_at false = inr refl

module _ (sides : TileSides) (n : ℕ) (store other : StoreModel) (old new : KeptModel) (key : TileKey) (rect part : Bounds) (entries : List Entry)
    (stale : NothingIsStale) (keeps : RunKeepsPixels) (clears : ClearWhereNotVisible) (is_store : IsStore store) (is_other : IsStore other) (up : IsUpTo n store) (agrees : Agrees store other)
    (draws : AreDrawable store entries) (placed : rect ≡ tile_rect sides key.col key.row)
    (h : IsHeaded store old new key rect part entries) (sound : AreSound sides n store (kept_of old)) where
  ready : Ready store h.was entries rect part
  ready = ready_by sides n store (kept_of old) key (kept_at key (kept_of old)) h.was entries rect part stale is_store refl sound draws placed h.from

  -- it has the value of its entries over what was stored when it was drawn
  drawn_at : (x y : ℤ) → IsTrue (holds h.tile.rect x y) → colour_of h.tile x y ≡ value_at entries store x y
  drawn_at x y inside = elim (split_at (holds part x y)) [
    | inl here ↦ h.shows.inside x y here
    | inr beside ↦
        let at_was : IsTrue (holds h.was.rect x y) = subst (λ (b : Bounds). IsTrue (holds b x y)) h.shows.rect inside in
        h.shows.outside x y at_was beside ∙ ready.fresh x y at_was beside
  ]

  tile_sound : IsSound sides n other key h.tile
  tile_sound = record {
    rect = h.shows.rect ∙ ready.rect_is ∙ placed;
    pixels = λ x y inside. subst IsPixel (sym (drawn_at x y inside)) (pixel_value store entries x y keeps is_store draws.good);
    good = subst (λ (l : List Entry). All IsEntry l) (sym h.entries_is) draws.good;
    named = subst (λ (l : List Entry). All (IsNamedUpTo n) l) (sym h.entries_is) (named_up_to n entries store up draws.current);
    right = λ x y inside cur.
        let now : All (IsCurrentAt other x y) entries = subst (λ (l : List Entry). All (IsCurrentAt other x y) l) h.entries_is cur in
        drawn_at x y inside
        ∙ value_same store other agrees clears is_store is_other entries x y draws.good (current_at store x y entries draws.current) now
        ∙ ap (λ (l : List Entry). value_at l other x y) (sym h.entries_is);
  }

  pub headed_sound : AreSound sides n other (kept_of old) → AreSound sides n other (kept_of new)
  headed_sound before = subst (AreSound sides n other) (sym h.kept) (each_first (IsSound sides n other) key h.tile (kept_of old) tile_sound before)

pub headed_placed : (store : StoreModel) (sides : TileSides) (old new : KeptModel) (key : TileKey) (rect part : Bounds) (entries : List Entry) → rect ≡ tile_rect sides key.col key.row
    → IsHeaded store old new key rect part entries → ArePlaced sides (kept_of old) → ArePlaced sides (kept_of new)
headed_placed store sides old new key rect part entries placed h before =
    let own : h.tile.rect ≡ tile_rect sides key.col key.row = h.shows.rect ∙ rect_from (kept_at key (kept_of old)) refl h.from in
    subst (ArePlaced sides) (sym h.kept) (each_first (λ k t. t.rect ≡ tile_rect sides k.col k.row) key h.tile (kept_of old) own before)
  where
    rect_from : (o : Option KeptTile) → kept_at key (kept_of old) ≡ o → ReachedFrom o h.was entries rect part → h.was.rect ≡ tile_rect sides key.col key.row
    rect_from None e f = ap (λ (u : KeptTile). u.rect) f.tile_is ∙ placed
    rect_from (Some was) e f = ap (λ (u : KeptTile). u.rect) f.same ∙ if_some (kept_at key (kept_of old)) (λ u. u.rect ≡ tile_rect sides key.col key.row) was e (before key)

-- ---- tiles without one of them

gone_at : (P : TileKey → KeptTile → Type 0) (key : TileKey) (es : KeptTiles) → ((k : TileKey) → IfSome (kept_at k es) (P k)) → IfSome (kept_at key (kept_without key es)) (P key) → (k : TileKey) → IfSome (kept_at k (kept_without key es)) (P k)
gone_at P key es all own k = (elim (same_key k key) as (λ y. same_key k key ≡ y → IfSome (kept_at k (kept_without key es)) (P k)) [
  | true ↦ λ t. subst (λ (j : TileKey). IfSome (kept_at j (kept_without key es)) (P j)) (sym (key_same k key t)) own
  | false ↦ λ t. subst (λ (o : Option KeptTile). IfSome o (P k)) (sym (other_at k key es t)) (all k)
]) refl

none_there : (P : TileKey → KeptTile → Type 0) (key : TileKey) (o : Option KeptTile) → o ≡ None → IfSome o (P key)
none_there P key None e = tt
none_there P key (Some t) e = absurd cc

module _ (old new : KeptModel) (key : TileKey) (kept : kept_of new ≡ kept_without key (kept_of old)) (gone : kept_at key (kept_of new) ≡ None) where
  all_gone : (P : TileKey → KeptTile → Type 0) → ((k : TileKey) → IfSome (kept_at k (kept_of old)) (P k)) → (k : TileKey) → IfSome (kept_at k (kept_of new)) (P k)
  all_gone P all = subst (λ (es : KeptTiles). (k : TileKey) → IfSome (kept_at k es) (P k)) (sym kept)
      (gone_at P key (kept_of old) all (none_there P key (kept_at key (kept_without key (kept_of old))) (ap (kept_at key) (sym kept) ∙ gone)))

  pub gone_keeps : (sides : TileSides) (store : StoreModel) → KeepsSound sides store old new
  gone_keeps sides store = record { sound = λ n other is_store is up agrees h k. all_gone (IsSound sides n other) k }

  pub gone_placed : (sides : TileSides) → ArePlaced sides (kept_of old) → ArePlaced sides (kept_of new)
  gone_placed sides h = all_gone (λ k t. t.rect ≡ tile_rect sides k.col k.row) h

pub same_keeps : (sides : TileSides) (store : StoreModel) (old new : KeptModel) → kept_of new ≡ kept_of old → KeepsSound sides store old new
same_keeps sides store old new e = record { sound = λ n other is_store is up agrees h k. subst (AreSound sides n other) (sym e) k }

pub shown_keeps : (sides : TileSides) (store : StoreModel) (old new : KeptModel) (key : TileKey) (rect : Bounds) (entries : List Entry)
    → NothingIsStale → RunKeepsPixels → ClearWhereNotVisible → AreDrawable store entries → rect ≡ tile_rect sides key.col key.row
    → IsShown store old new key rect entries → KeepsSound sides store old new
shown_keeps sides store old new key rect entries stale keeps clears draws placed h = record {
  sound = λ n other is_store is up agrees before after. headed_sound sides n store other old new key rect h.0 entries stale keeps clears is_store is up agrees draws placed h.1 before after;
}
