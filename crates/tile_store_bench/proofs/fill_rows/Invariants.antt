use Rattle.std.proofs.Common.{◌≡◌}
use Rattle.tile_store_bench.proofs.fill_rows.Given as goal

abbrev pub invariant-loop-row : goal.invariant-loop-row
invariant-loop-row l = record { stays : l.store.window ≡ l.fn.store.window }
