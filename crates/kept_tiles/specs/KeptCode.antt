-- How proofs tell kept tiles apart.
use Rattle.std.specs.Prelude.{ℕ, List, Option, refl}
use Rattle.std.specs.Coded.{Coded, code_by, coded_ℕ, coded_list, coded×, coded_option}
use Rattle.wr_geom.specs.Bounds.{Bounds}
use Rattle.wr_geom.specs.contracts.keys.TileKey as keys
use Rattle.wr_geom.specs.contracts.rect.Rect as rects
use Rattle.wr_geom.specs.declared.keys.TileKey.{TileKey}
use Rattle.span_kernels.specs.PlanesModel.{PlanesModel}
use Rattle.span_kernels.specs.contracts.planes.Planes as all_planes
use Rattle.tile_records.specs.Interning.{Interning, interning_code}
use Rattle.tile_records.specs.contracts.record.TileRecord as records
use Rattle.tile_records.specs.declared.record.TileRecord.{TileRecord}
use Rattle.tile_store.specs.StoreModel.{StoreModel}
use Rattle.tile_store.specs.contracts.window.Window as windows
use Rattle.tile_store.specs.declared.tile.Tile.{Tile}
use Rattle.tile_store.specs.declared.window.Window.{Window}
use Rattle.kept_tiles.specs.Tiles.{KeptModel}

abbrev tile_code : Coded (Tile TileRecord)
tile_code =
    code_by (Bounds × (PlanesModel × TileRecord)) (coded× rects.the_row.coded (coded× all_planes.the_row.coded records.the_row.coded))
    (λ t. (t.rect, (t.planes, t.note))) (λ p. record { rect = p.0; planes = p.1.0; note = p.1.1 }) (λ _. refl)

abbrev store_code : Coded (StoreModel TileRecord)
store_code =
    code_by (List (TileKey × Tile TileRecord) × (Option Window × ℕ)) (coded× (coded_list (coded× keys.the_row.coded tile_code)) (coded× (coded_option windows.the_row.coded) coded_ℕ))
    (λ s. (s.tiles, (s.window, s.opened))) (λ p. record { tiles = p.0; window = p.1.0; opened = p.1.1 }) (λ _. refl)

abbrev pub kept_code : Coded KeptModel
kept_code = code_by (Interning × StoreModel TileRecord) (coded× interning_code store_code) (λ k. (k.interner, k.store)) (λ p. record { interner = p.0; store = p.1 }) (λ _. refl)
