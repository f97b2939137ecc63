use Rattle.std.proofs.Common.{◌≡◌, None}
use Rattle.tile_store_bench.proofs.open_and_close.Given as goal

abbrev pub invariant-loop : goal.invariant-loop
invariant-loop l = record {
  closed : l.store.window ≡ None;
  tiles : l.store.tiles ≡ l.fn.store.tiles;
}
