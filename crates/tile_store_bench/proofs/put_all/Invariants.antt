use Rattle.std.proofs.Common.{◌≡◌, None}
use Rattle.tile_store_bench.proofs.put_all.Given as goal

abbrev pub invariant-loop-number : goal.invariant-loop-number
invariant-loop-number l = record { closed : l.store.window ≡ None }
