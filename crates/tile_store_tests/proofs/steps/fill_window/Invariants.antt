use Rattle.std.proofs.Common.{◌≡◌}
use Rattle.tile_store_tests.proofs.steps.fill_window.Given as goal

abbrev pub invariant-loop-row : goal.invariant-loop-row
invariant-loop-row l = record { stays : l.store.window ≡ l.fn.store.window }
