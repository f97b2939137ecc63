-- The work on one tile, by its records.
use Rattle.std.proofs.Common.{◌≡◌, ◌<◌, ◌≤◌, ◌+◌, ◌^◌, ℕ, suc, Bool, true, false, List, [], ◌∷◌, length, option_map, Option, Some, None, Result, Ok, Err, IfOk, OnOk, OnErr, refl, sym, ap, ◌∙◌, arith}
use Rattle.std.specs.Map.{lookup, remove_entry}
use Rattle.std.proofs.lemmas.Map.Made.{lookup-map_values}
use Rattle.wr_geom.specs.Bounds.{Bounds, area_of}
use Rattle.wr_geom.specs.declared.keys.TileKey.{TileKey}
use Rattle.image_store.specs.StoreModel.{StoreModel as Resources}
use Rattle.primitives.specs.declared.entry.Entry.{Entry}
use Rattle.tile_store.specs.Keys.{same_key}
use Rattle.tile_store.specs.StoreModel.{StoreModel, opened_after}
use Rattle.tile_store.specs.Tiles.{TileList}
use Rattle.tile_records.specs.Interning.{Interning, entries_under, ids_keys}
use Rattle.tile_records.specs.declared.id.Id.{Id}
use Rattle.tile_records.specs.declared.record.TileRecord.{TileRecord}
use Rattle.kept_tiles.specs.Tiles.{KeptTile, KeptTiles, KeptModel, all_valued, kept_with, kept_of, kept_at, kept_without}
use Rattle.kept_tiles.specs.Work.{Records, records_of, stale_area, stale_part, work_at, IsWorkDone}
use Rattle.kept_tiles.specs.Steps.{ReachedFrom, IsHeaded, IsShown}

pub records_without : (key : TileKey) (es : KeptTiles) → records_of (kept_without key es) ≡ remove_entry (same_key key) (records_of es)
records_without key [] = refl
records_without key (e ∷ es) = (elim (same_key key e.0) as (λ y. same_key key e.0 ≡ y → records_of (kept_without key (e ∷ es)) ≡ remove_entry (same_key key) (records_of (e ∷ es))) [
  | true ↦ λ t. rw t refl
  | false ↦ λ t. rw t (ap (λ (l : Records). (e.0, e.1.entries) ∷ l) (records_without key es))
]) refl

pub records_at : (key : TileKey) (es : KeptTiles) → lookup (same_key key) (records_of es) ≡ option_map (λ (t : KeptTile). t.entries) (kept_at key es)
records_at key es = lookup-map_values (λ (t : KeptTile). t.entries) (same_key key) es

stale_from : (o : Option KeptTile) (t : KeptTile) (entries : List Entry) (rect part : Bounds) → ReachedFrom o t entries rect part → part ≡ stale_part (option_map (λ (u : KeptTile). u.entries) o) entries rect
stale_from None t entries rect part h = h.part_is
stale_from (Some was) t entries rect part h = h.part_is

-- the part that was drawn is the one that had to be
pub headed_area : (store : Resources) (old new : KeptModel) (key : TileKey) (rect part : Bounds) (entries : List Entry) → IsHeaded store old new key rect part entries
    → area_of part ≡ stale_area (records_of (kept_of old)) key rect entries
headed_area store old new key rect part entries h =
    ap (λ (b : Bounds). area_of b) (stale_from (kept_at key (kept_of old)) h.was entries rect part h.from)
    ∙ ap (λ (o : Option (List Entry)). area_of (stale_part o entries rect)) (sym (records_at key (kept_of old)))

headed_some : (store : Resources) (old new : KeptModel) (key : TileKey) (rect part : Bounds) (e : Entry) (es : List Entry) → IsHeaded store old new key rect part (e ∷ es)
    → IsWorkDone old new (work_at (records_of (kept_of old)) key rect (e ∷ es))
headed_some store old new key rect part e es h = record {
  kept = ap records_of h.kept ∙ ap (λ (l : List Entry). (key, l) ∷ records_of (kept_without key (kept_of old))) h.entries_is ∙ ap (λ (l : Records). (key, e ∷ es) ∷ l) (records_without key (kept_of old));
  opened = h.opened ∙ ap (λ (b : Bounds). opened_after old.store.opened (area_of b))
      (stale_from (kept_at key (kept_of old)) h.was (e ∷ es) rect part h.from ∙ ap (λ (o : Option (List Entry)). stale_part o (e ∷ es) rect) (sym (records_at key (kept_of old))));
}

pub headed_work : (store : Resources) (old new : KeptModel) (key : TileKey) (rect part : Bounds) (entries : List Entry) → 0 < length entries → IsHeaded store old new key rect part entries
    → IsWorkDone old new (work_at (records_of (kept_of old)) key rect entries)
headed_work store old new key rect part [] some h = absurd (omega (arith, some))
headed_work store old new key rect part (e ∷ es) some h = headed_some store old new key rect part e es h

pub at_rest : (n : ℕ) → n < 2 ^ 64 → n ≡ opened_after n 0
at_rest n h = omega (arith, h)

pub gone_work : (old new : KeptModel) (key : TileKey) (rect : Bounds) (entries : List Entry) → entries ≡ [] → old.store.opened < 2 ^ 64 → kept_of new ≡ kept_without key (kept_of old)
    → new.store.opened ≡ old.store.opened → IsWorkDone old new (work_at (records_of (kept_of old)) key rect entries)
gone_work old new key rect entries none fits kept opened = rw none (record {
  kept = ap records_of kept ∙ records_without key (kept_of old);
  opened = opened ∙ at_rest old.store.opened fits;
})

pub length_without : {K V : Type 0} (test : K → Bool) (es : List (K × V)) → length (remove_entry test es) ≤ length es
length_without test [] = omega arith
length_without test (e ∷ es) = (elim (test e.0) as (λ y. test e.0 ≡ y → length (remove_entry test (e ∷ es)) ≤ length (e ∷ es)) [
  | true ↦ λ t. rw t (omega arith)
  | false ↦ λ t. rw t (let h = length_without test es in omega (arith, h))
]) refl

-- ---- how many are kept

pub length_valued : (m : Interning) (es : TileList TileRecord) → length (all_valued m es) ≡ length es
length_valued m [] = refl
length_valued m (e ∷ es) = ap suc (length_valued m es)

pub shown_more : (store : Resources) (m n : Interning) (old new : StoreModel TileRecord) (key : TileKey) (rect : Bounds) (entries : List Entry) → IsShown store (kept_with m old) (kept_with n new) key rect entries → length new.tiles ≤ length old.tiles + 1
shown_more store m n old new key rect entries h =
    let a = length_valued n new.tiles in
    let b = length_valued m old.tiles in
    let c = ap (λ (l : KeptTiles). length l) h.1.kept in
    let d = length_without (same_key key) (all_valued m old.tiles) in
    omega (arith, a, b, c, d)

module _ {T E : Type 0} {P Q : Type 0} where
  pub on_ok : (r : Result T E) → OnOk r P → (P → Q) → OnOk r Q
  on_ok (Ok x) h f = f h
  on_ok (Err e) h f = tt

  pub either : {R : Type 0} (r : Result T E) → OnOk r P → OnErr r Q → (P → R) → (Q → R) → R
  either (Ok x) h k f g = f h
  either (Err e) h k f g = g k

pub if_ok : {T E : Type 0} (P Q : T → Type 0) (r : Result T E) → IfOk r P → ((x : T) → P x → Q x) → IfOk r Q
if_ok P Q (Ok x) h f = f x h
if_ok P Q (Err e) h f = tt

-- an empty list of ids
pub no_ids : (m : Interning) (ids : List Id) → length ids ≡ 0 → (ids_keys ids ≡ []) × (entries_under m (ids_keys ids) ≡ [])
no_ids m [] h = (refl, refl)
no_ids m (i ∷ ids) h = absurd (omega (arith, h))
