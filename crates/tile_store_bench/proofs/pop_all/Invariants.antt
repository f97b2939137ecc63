use Rattle.std.proofs.Common.{◌≡◌, None}
use Rattle.tile_store_bench.proofs.pop_all.Given as goal

abbrev pub invariant-loop : goal.invariant-loop
invariant-loop l = record { closed : l.store.window ≡ None }
