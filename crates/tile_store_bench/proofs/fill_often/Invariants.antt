use Rattle.std.proofs.Common.{◌≡◌}
use Rattle.tile_store_bench.proofs.fill_often.Given as goal

abbrev pub invariant-loop-round : goal.invariant-loop-round
invariant-loop-round l = record { stays : l.store.window ≡ l.fn.store.window }
