-- A tile that is touched, or put without a record.
use Rattle.std.proofs.Common.{◌≡◌, true, false, List, ◌∷◌, Option, Some, None, is_some, refl, sym, ap, ◌∙◌, true≢false}
use Rattle.wr_geom.specs.Bounds.{Bounds}
use Rattle.wr_geom.specs.declared.keys.TileKey.{TileKey}
use Rattle.primitives.specs.declared.entry.Entry.{Entry}
use Rattle.tile_store.specs.StoreModel.{StoreModel}
use Rattle.tile_store.specs.Tiles.{tile_at, without, touched, blank_tile}
use Rattle.tile_store.specs.declared.tile.Tile.{Tile}
use Rattle.tile_store.proofs.Keys.{key_is}
use Rattle.tile_records.specs.Dirt.{dirt}
use Rattle.tile_records.specs.Interning.{Interning}
use Rattle.tile_records.specs.declared.record.TileRecord.{TileRecord}
use Rattle.kept_tiles.specs.Tiles.{entries_in}
use Rattle.kept_tiles.specs.Steps.{IsPut, IsReached}
use Rattle.kept_tiles.proofs.Lists.{claims_without, without_none}

abbrev Store : Type 0
Store = StoreModel TileRecord

abbrev Stored : Type 0
Stored = Tile TileRecord

-- a store with a tile as the most recent, if it is kept
abbrev pub touching : Store → TileKey → Store
touching s key = record s { tiles = touched key s.tiles }

touched_some : (s : Store) (key : TileKey) (t : Stored) → tile_at key s.tiles ≡ Some t → touched key s.tiles ≡ (key, t) ∷ without key s.tiles
touched_some s key t h = rw h refl

touched_none : (s : Store) (key : TileKey) → tile_at key s.tiles ≡ None → touched key s.tiles ≡ s.tiles
touched_none s key h = rw h refl

pub some_from : (o : Option Stored) → is_some o ≡ true → (t : Stored) × (o ≡ Some t)
some_from None h = absurd (true≢false (sym h))
some_from (Some t) h = (t, refl)

pub none_from : (o : Option Stored) → is_some o ≡ false → o ≡ None
none_from None h = refl
none_from (Some t) h = absurd (true≢false h)

-- the tile that was touched is found
pub found_first : (s mid : Store) (key : TileKey) (t : Stored) → tile_at key s.tiles ≡ Some t → mid ≡ touching s key → tile_at key mid.tiles ≡ Some t
found_first s mid key t h e = ap (λ (x : Store). tile_at key x.tiles) e ∙ ap (tile_at key) (touched_some s key t h) ∙ (rw (key_is key) refl)

pub reached_kept : (m : Interning) (s mid : Store) (key : TileKey) (rect part : Bounds) (entries : List Entry) (t : Stored) → tile_at key s.tiles ≡ Some t → mid ≡ touching s key
    → ((u : Stored) → tile_at key mid.tiles ≡ Some u → part ≡ dirt (entries_in m u) entries rect)
    → IsReached m s mid key rect entries part
reached_kept m s mid key rect part entries t h e f = record {
  tile = t;
  first = e ∙ ap (λ l. let x : Store = record s { tiles = l } in x) (touched_some s key t h);
  from = rw h (record { same = refl; part_is = f t (found_first s mid key t h e) });
  claimed = claims_without key s.tiles t h;
}

pub untouched : (s mid : Store) (key : TileKey) → tile_at key s.tiles ≡ None → mid ≡ touching s key → mid ≡ s
untouched s mid key h e = e ∙ ap (λ l. let x : Store = record s { tiles = l } in x) (touched_none s key h)

pub reached_put : (m : Interning) (s mid new : Store) (key : TileKey) (rect : Bounds) (entries : List Entry) → tile_at key s.tiles ≡ None → mid ≡ touching s key
    → IsPut mid new key rect → IsReached m s new key rect entries rect
reached_put m s mid new key rect entries h e p =
    let same = untouched s mid key h e in
    let gone = without_none key s.tiles h in
    record {
      tile = blank_tile rect p.note;
      first = p.store ∙ ap (λ (x : Store). let y : Store = record x { tiles = (key, blank_tile rect p.note) ∷ x.tiles } in y) same ∙ ap (λ l. let y : Store = record s { tiles = (key, blank_tile rect p.note) ∷ l } in y) (sym gone);
      from = rw h (record { tile_is = rw p.none refl; part_is = refl });
      claimed = λ k. rw (p.none, gone) refl;
    }
