-- Rows of which a part was changed byte by byte.
use Rattle.std.specs.Prelude.{◌≡◌, ℕ, ◌<◌, ◌≤◌, List, slice_index}

-- new has at each index from one on to before another what f gives of the index and the old byte, and is else as old
pub record IsStepped (f : ℕ → ℕ → ℕ) (from to : ℕ) (old new : List ℕ) : Type 0 where
  pub inside : (k : ℕ) → from ≤ k → k < to → slice_index new k ≡ f k (slice_index old k)
  pub below : (k : ℕ) → k < from → slice_index new k ≡ slice_index old k
  pub above : (k : ℕ) → to ≤ k → slice_index new k ≡ slice_index old k
