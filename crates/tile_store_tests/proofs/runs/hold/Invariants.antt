use Rattle.std.proofs.Common.{◌≡◌, None}
use Rattle.tile_store_tests.proofs.runs.hold.Given as goal

abbrev pub invariant-loop-number : goal.invariant-loop-number
invariant-loop-number l = record { closed : l.store.window ≡ None }

abbrev pub invariant-loop : goal.invariant-loop
invariant-loop l = record { closed : l.store.window ≡ None }
