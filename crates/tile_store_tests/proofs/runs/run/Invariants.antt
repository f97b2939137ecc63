use Rattle.std.proofs.Common.{◌≡◌, None}
use Rattle.tile_store_tests.proofs.runs.run.Given as goal

abbrev pub invariant-loop : goal.invariant-loop
invariant-loop l = record { closed : l.store.window ≡ None }

abbrev pub invariant-loop-2 : goal.invariant-loop-2
invariant-loop-2 l = record { closed : l.store.window ≡ None }
