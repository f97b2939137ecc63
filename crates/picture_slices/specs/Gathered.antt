-- Tops gathered into slices, one after another.
use Rattle.std.specs.Prelude.{ℕ, zero, suc, List, [], ◌∷◌, ◌++◌, None, if◌then◌else◌}
use Rattle.primitives.specs.declared.entry.Top.{Top}
use Rattle.slice_rules.specs.Homes.{same_home}
use Rattle.slice_rules.specs.Runs.{Run}

-- a run of one top
abbrev pub lone_run : Top → Run Top
lone_run t = record { home = t.scroll; members = t ∷ [] }

-- a run with one top more
abbrev pub with_top : Run Top → Top → Run Top
with_top r t = record { home = r.home; members = r.members ++ t ∷ [] }

abbrev pub without_home : Run Top → Run Top
without_home r = record { home = None; members = r.members }

-- a run and a top after it, where so many more runs may come
abbrev pub after_run : ℕ → Run Top → Top → List (Run Top)
after_run zero r t = if same_home r.home t.scroll then with_top r t ∷ [] else with_top (without_home r) t ∷ []
after_run (suc n) r t = if same_home r.home t.scroll then with_top r t ∷ [] else r ∷ lone_run t ∷ []

-- runs, at most one more than this number, and a top after them
abbrev pub after_runs : ℕ → List (Run Top) → Top → List (Run Top)
after_runs n [] t = lone_run t ∷ []
after_runs n (r ∷ []) t = after_run n r t
after_runs zero (r ∷ s ∷ rs) t = r ∷ after_runs zero (s ∷ rs) t
after_runs (suc n) (r ∷ s ∷ rs) t = r ∷ after_runs n (s ∷ rs) t
