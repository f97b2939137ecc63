-- Once the work is done, each tile shows its entries.
use Rattle.std.proofs.Common.{◌≡◌, ℕ, Bool, true, false, List, [], ◌∷◌, Option, Some, None, option_map, All, refl, sym, ap, subst, ◌∙◌}
use Rattle.std.specs.Map.{lookup, remove_entry}
use Rattle.wr_geom.specs.Bounds.{Bounds}
use Rattle.wr_geom.specs.declared.keys.TileKey.{TileKey}
use Rattle.image_store.specs.StoreModel.{StoreModel}
use Rattle.primitives.specs.Stacks.{value_at}
use Rattle.primitives.specs.declared.entry.Entry.{Entry}
use Rattle.tile_grid.specs.declared.tile.TileSides.{TileSides}
use Rattle.tile_records.specs.Right.{IsCurrentAt}
use Rattle.tile_store.specs.Keys.{same_key}
use Rattle.tile_store.proofs.Keys.{key_is, key_same}
use Rattle.kept_tiles.specs.Tiles.{KeptTile, KeptTiles, kept_at, kept_of}
use Rattle.kept_tiles.specs.Work.{Records, Shown, records_of, tile_work, tiles_work, work_at}
use Rattle.kept_tiles.specs.Sound.{IsCurrent, IsSound, AreSound}
use Rattle.kept_tiles.specs.Showing.{ShowsEntries, AreShown, HaveOneKey, IsApartFrom, AreApart, AreAllCurrent, WorkShows, WorkKeepsOneKey}
use Rattle.kept_tiles.proofs.Agreement.{current_at}
use Rattle.kept_tiles.proofs.Sounding.{if_some}
use Rattle.kept_tiles.proofs.Working.{records_at}

none_without : (k : TileKey) (test : TileKey → Bool) (es : Records) → lookup (same_key k) es ≡ None → lookup (same_key k) (remove_entry test es) ≡ None
none_without k test [] h = refl
none_without k test (e ∷ es) h = (elim (same_key k e.0) as (λ y. same_key k e.0 ≡ y → lookup (same_key k) (remove_entry test (e ∷ es)) ≡ None) [
  | true ↦ λ t. let h' = rw t at h in absurd cc
  | false ↦ λ t. let h' : lookup (same_key k) es ≡ None = rw t at h in (elim (test e.0) as (λ y. test e.0 ≡ y → lookup (same_key k) (remove_entry test (e ∷ es)) ≡ None) [
    | true ↦ λ u. rw u h'
    | false ↦ λ u. rw u (rw t (none_without k test es h'))
  ]) refl
]) refl

one_without : (test : TileKey → Bool) (es : Records) → HaveOneKey es → HaveOneKey (remove_entry test es)
one_without test [] h = tt
one_without test (e ∷ es) h = (elim (test e.0) as (λ y. test e.0 ≡ y → HaveOneKey (remove_entry test (e ∷ es))) [
  | true ↦ λ t. rw t h.1
  | false ↦ λ t. rw t (none_without e.0 test es h.0, one_without test es h.1)
]) refl

gone : (k : TileKey) (es : Records) → HaveOneKey es → lookup (same_key k) (remove_entry (same_key k) es) ≡ None
gone k [] h = refl
gone k (e ∷ es) h = (elim (same_key k e.0) as (λ y. same_key k e.0 ≡ y → lookup (same_key k) (remove_entry (same_key k) (e ∷ es)) ≡ None) [
  | true ↦ λ t. rw t (subst (λ (j : TileKey). lookup (same_key j) es ≡ None) (sym (key_same k e.0 t)) h.0)
  | false ↦ λ t. rw t (rw t (gone k es h.1))
]) refl

other : (k j : TileKey) (es : Records) → same_key k j ≡ false → lookup (same_key k) (remove_entry (same_key j) es) ≡ lookup (same_key k) es
other k j [] h = refl
other k j (e ∷ es) h = (elim (same_key j e.0) as (λ y. same_key j e.0 ≡ y → lookup (same_key k) (remove_entry (same_key j) (e ∷ es)) ≡ lookup (same_key k) (e ∷ es)) [
  | true ↦ λ t. let n : same_key k e.0 ≡ false = subst (λ (x : TileKey). same_key k x ≡ false) (key_same j e.0 t) h in rw t (rw n refl)
  | false ↦ λ t. rw t ((elim (same_key k e.0) as (λ y. same_key k e.0 ≡ y → lookup (same_key k) (e ∷ remove_entry (same_key j) es) ≡ lookup (same_key k) (e ∷ es)) [
    | true ↦ λ u. rw u refl
    | false ↦ λ u. rw u (other k j es h)
  ]) refl)
]) refl

-- what is looked up once a tile is worked on
abbrev wanted : List Entry → Option (List Entry)
wanted [] = None
wanted (e ∷ es) = Some (e ∷ es)

work_here : (k : TileKey) (rect : Bounds) (entries : List Entry) (kept : Records) → HaveOneKey kept → lookup (same_key k) (work_at kept k rect entries).kept ≡ wanted entries
work_here k rect [] kept h = gone k kept h
work_here k rect (e ∷ es) kept h = rw (key_is k) refl

work_one : (k : TileKey) (rect : Bounds) (entries : List Entry) (kept : Records) → HaveOneKey kept → HaveOneKey (work_at kept k rect entries).kept
work_one k rect [] kept h = one_without (same_key k) kept h
work_one k rect (e ∷ es) kept h = (gone k kept h, one_without (same_key k) kept h)

work_elsewhere : (k j : TileKey) (rect : Bounds) (entries : List Entry) (kept : Records) → same_key k j ≡ false → lookup (same_key k) (work_at kept j rect entries).kept ≡ lookup (same_key k) kept
work_elsewhere k j rect [] kept h = other k j kept h
work_elsewhere k j rect (e ∷ es) kept h = rw h (other k j kept h)

later_elsewhere : (k : TileKey) (kept : Records) (vs : List Shown) → IsApartFrom k vs → lookup (same_key k) (tiles_work kept vs).kept ≡ lookup (same_key k) kept
later_elsewhere k kept [] h = refl
later_elsewhere k kept (v ∷ vs) h = later_elsewhere k (tile_work kept v).kept vs h.1 ∙ work_elsewhere k v.key v.rect v.entries kept h.0

all_one : (kept : Records) (vs : List Shown) → HaveOneKey kept → HaveOneKey (tiles_work kept vs).kept
all_one kept [] h = h
all_one kept (v ∷ vs) h = all_one (tile_work kept v).kept vs (work_one v.key v.rect v.entries kept h)

pub work_keeps_one_key : WorkKeepsOneKey
work_keeps_one_key old new shown d h = subst HaveOneKey (sym d.kept) (all_one (records_of (kept_of old)) shown h)

shown_from : (sides : TileSides) (n : ℕ) (store : StoreModel) (es : KeptTiles) (k : TileKey) (entries : List Entry) (o : Option KeptTile) → kept_at k es ≡ o → AreSound sides n store es → All (IsCurrent store) entries
    → option_map (λ (t : KeptTile). t.entries) o ≡ wanted entries → ShowsEntries store entries o
shown_from sides n store es k [] None e sound cur h = refl
shown_from sides n store es k (x ∷ xs) None e sound cur h = absurd cc
shown_from sides n store es k [] (Some t) e sound cur h = absurd cc
shown_from sides n store es k (x ∷ xs) (Some t) e sound cur h = λ a b inside.
    let same : t.entries ≡ (x ∷ xs) = cc in
    let s = if_some (kept_at k es) (λ u. IsSound sides n store k u) t e (sound k) in
    let at : All (IsCurrentAt store a b) t.entries = subst (λ (l : List Entry). All (IsCurrentAt store a b) l) (sym same) (current_at store a b (x ∷ xs) cur) in
    s.right a b inside at ∙ ap (λ (l : List Entry). value_at l store a b) same

all_shown : (sides : TileSides) (n : ℕ) (store : StoreModel) (kept : Records) (es : KeptTiles) (vs : List Shown) → AreSound sides n store es → records_of es ≡ (tiles_work kept vs).kept → HaveOneKey kept → AreApart vs → AreAllCurrent store vs → AreShown store es vs
all_shown sides n store kept es [] sound e one apart cur = tt
all_shown sides n store kept es (v ∷ vs) sound e one apart cur =
    let looked : lookup (same_key v.key) (records_of es) ≡ wanted v.entries = ap (lookup (same_key v.key)) e ∙ later_elsewhere v.key (tile_work kept v).kept vs apart.0 ∙ work_here v.key v.rect v.entries kept one in (
      shown_from sides n store es v.key v.entries (kept_at v.key es) refl sound cur.0 (sym (records_at v.key es) ∙ looked),
      all_shown sides n store (tile_work kept v).kept es vs sound e (work_one v.key v.rect v.entries kept one) apart.1 cur.1,
    )

pub work_shows : WorkShows
work_shows sides n store old new shown sound d one apart cur = all_shown sides n store (records_of (kept_of old)) (kept_of new) shown sound d.kept one apart cur
