-- Keys of stored tiles, and those of their records.
use Rattle.std.proofs.Common.{◌≡◌, false, [], ◌∷◌, None, refl}
use Rattle.std.specs.Map.{keys_of, lookup}
use Rattle.std.proofs.lemmas.Map.Keys.{IsDistinct-head, IsDistinct-tail}
use Rattle.std.specs.List.{AllByRecursion}
use Rattle.wr_geom.specs.declared.keys.TileKey.{TileKey}
use Rattle.tile_store.specs.Keys.{same_key}
use Rattle.tile_store.specs.Laws.{HaveOwnKeys}
use Rattle.tile_store.specs.Tiles.{TileList}
use Rattle.tile_records.specs.Interning.{Interning}
use Rattle.tile_records.specs.declared.record.TileRecord.{TileRecord}
use Rattle.kept_tiles.specs.Showing.{HaveOneKey}
use Rattle.kept_tiles.specs.Tiles.{all_valued}
use Rattle.kept_tiles.specs.Work.{records_of}

-- a key that none of the others is isn't found among them
none_same : (m : Interning) (key : TileKey) (es : TileList TileRecord) → AllByRecursion (λ k. same_key key k ≡ false) (keys_of es) → lookup (same_key key) (records_of (all_valued m es)) ≡ None
none_same m key [] h = refl
none_same m key (e ∷ es) h = rw h.0 (none_same m key es h.1)

pub own_keys : (m : Interning) (es : TileList TileRecord) → HaveOwnKeys es → HaveOneKey (records_of (all_valued m es))
own_keys m [] h = tt
own_keys m (e ∷ es) h = (none_same m e.0 es (IsDistinct-head same_key e.0 (keys_of es) h), own_keys m es (IsDistinct-tail same_key e.0 (keys_of es) h))
