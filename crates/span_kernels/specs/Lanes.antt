-- Sixteen bytes of a row, as the code takes them at a time.
use Rattle.std.specs.Prelude.{◌≡◌, ℕ, ◌<◌, ◌≤◌, List, length, slice_index}

-- sixteen numbers, each the value of a function at its index
pub record AreLanes (lanes : List ℕ) (f : ℕ → ℕ) : Type 0 where
  pub count : length lanes ≡ 16
  pub each : (k : ℕ) → k < 16 → slice_index lanes k ≡ f k

-- no number of sixteen exceeds the one of others at its index
abbrev pub IsBelow : List ℕ → List ℕ → Type 0
IsBelow lanes most = (k : ℕ) → k < 16 → slice_index lanes k ≤ slice_index most k
