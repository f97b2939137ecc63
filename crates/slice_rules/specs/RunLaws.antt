-- What holds of runs and of slices, as laws on the definitions.
use Rattle.std.specs.Prelude.{◌≡◌, ◌≢◌, ◌≤◌, List, [], ◌∷◌, map, length, All}
use Rattle.slice_rules.specs.Homes.{Home}
use Rattle.slice_rules.specs.Runs.{Run, runs, joined, slices_of, mapped}

-- members of one home, at least one
pub record IsRun {T : Type 0} (home : T → Home) (r : Run T) : Type 0 where
  pub some : r.members ≢ []
  pub of_home : All (λ t. home t ≡ r.home) r.members

-- no two runs side by side have the same home
abbrev pub NeighboursDiffer : {T : Type 0} → List (Run T) → Type 0
NeighboursDiffer [] = Unit {0}
NeighboursDiffer (r ∷ []) = Unit {0}
NeighboursDiffer (q ∷ r ∷ rs) = (q.home ≢ r.home) × NeighboursDiffer (r ∷ rs)

-- each run has members of one home
abbrev pub RunsHaveOneHome : Type 0 → Type 0
RunsHaveOneHome T = (home : T → Home) (ts : List T) → All (IsRun home) (runs home ts)

-- runs side by side have different homes
abbrev pub NeighbouringRunsDiffer : Type 0 → Type 0
NeighbouringRunsDiffer T = (home : T → Home) (ts : List T) → NeighboursDiffer (runs home ts)

-- the runs have all members, in order
abbrev pub RunsHaveAll : Type 0 → Type 0
RunsHaveAll T = (home : T → Home) (ts : List T) → joined (runs home ts) ≡ ts

-- so have the slices
abbrev pub SlicesHaveAll : Type 0 → Type 0
SlicesHaveAll T = (home : T → Home) (ts : List T) → joined (slices_of home ts) ≡ ts

-- there are at most eight slices
abbrev pub SlicesAreFew : Type 0 → Type 0
SlicesAreFew T = (home : T → Home) (ts : List T) → length (slices_of home ts) ≤ 8

-- no slice is empty
abbrev pub SlicesHaveMembers : Type 0 → Type 0
SlicesHaveMembers T = (home : T → Home) (ts : List T) → All (λ slice. slice.members ≢ []) (slices_of home ts)

-- where each has the home of what stands in its place, the runs are those of what stands there
abbrev pub RunsOfMapped : Type 0 → Type 0 → Type 0
RunsOfMapped A B =
    (f : A → B) (home : A → Home) (home_there : B → Home) (ts : List A)
    → All (λ t. home_there (f t) ≡ home t) ts
    → runs home_there (map f ts) ≡ map (mapped f) (runs home ts)

-- and so are the slices
abbrev pub SlicesOfMapped : Type 0 → Type 0 → Type 0
SlicesOfMapped A B =
    (f : A → B) (home : A → Home) (home_there : B → Home) (ts : List A)
    → All (λ t. home_there (f t) ≡ home t) ts
    → slices_of home_there (map f ts) ≡ map (mapped f) (slices_of home ts)
