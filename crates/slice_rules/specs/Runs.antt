-- Members in runs of one home, and at most eight slices of them.
use Rattle.std.specs.Prelude.{ℕ, zero, suc, List, [], ◌∷◌, ◌++◌, map, None, if◌then◌else◌}
use Rattle.slice_rules.specs.Homes.{Home, same_home}

-- members that follow one another, with their home
pub record Run (T : Type 0) : Type 0 where
  pub home : Home
  pub members : List T

-- one member more at the front of a run of its home, or in a run of its own
abbrev pub before_runs : {T : Type 0} → (T → Home) → T → List (Run T) → List (Run T)
before_runs home t [] = record { home = home t; members = t ∷ [] } ∷ []
before_runs home t (r ∷ rs) =
    if same_home (home t) r.home then record { home = home t; members = t ∷ r.members } ∷ rs
    else record { home = home t; members = t ∷ [] } ∷ (r ∷ rs)

-- members in runs of one home
abbrev pub runs : {T : Type 0} → (T → Home) → List T → List (Run T)
runs home [] = []
runs home (t ∷ ts) = before_runs home t (runs home ts)

-- the members of runs, one after another
abbrev pub joined : {T : Type 0} → List (Run T) → List T
joined [] = []
joined (r ∷ rs) = r.members ++ joined rs

-- so many runs as they are, and then the last one, or what is left in one run without a home
abbrev pub rest_in_one : {T : Type 0} → ℕ → List (Run T) → List (Run T)
rest_in_one n [] = []
rest_in_one zero (r ∷ []) = r ∷ []
rest_in_one zero (r ∷ q ∷ rs) = record { home = None; members = joined (r ∷ q ∷ rs) } ∷ []
rest_in_one (suc n) (r ∷ rs) = r ∷ rest_in_one n rs

-- at most eight runs
abbrev pub slices_of : {T : Type 0} → (T → Home) → List T → List (Run T)
slices_of home ts = rest_in_one 7 (runs home ts)

-- a run with something else in the place of each member
abbrev pub mapped : {A B : Type 0} → (A → B) → Run A → Run B
mapped f r = record { home = r.home; members = map f r.members }
