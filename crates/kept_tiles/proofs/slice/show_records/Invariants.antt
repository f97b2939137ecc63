use Rattle.std.proofs.Common.{◌≡◌, true, length}
use Rattle.tile_grid.specs.Grids.{tiles_from, tiles_of}
use Rattle.kept_tiles.specs.Tiles.{kept_with}
use Rattle.kept_tiles.specs.Work.{shown_tiles}
use Rattle.kept_tiles.proofs.Progress.{IsCounting}
use Rattle.kept_tiles.proofs.Slices.{IsShowing}
use Rattle.kept_tiles.proofs.slice.show_records.Given as goal

abbrev pub invariant-loop-record : goal.invariant-loop-record
invariant-loop-record l = record {
  showing : IsShowing l.slice l.grid l.store (kept_with l.fn.interner l.fn.tiles) l.interner l.tiles l.is_well l.i l.record-iterator.rest.items;
  counting : l.is_well ≡ true → IsCounting (kept_with l.fn.interner l.fn.tiles) (kept_with l.interner l.tiles) (shown_tiles l.slice (tiles_of l.grid))
      (shown_tiles l.slice (tiles_from l.grid l.i (length l.record-iterator.rest.items))) l.drawn;
  scratch : l.scratch ≡ l.fn.scratch;
}
