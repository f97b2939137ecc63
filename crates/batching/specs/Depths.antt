-- What covers each place of a row, and the parts of a row whose places pass a test.
use Rattle.std.specs.Prelude.{◌≡◌, ◌≤◌, ◌<◌, ◌⊎◌, ℕ, List, Option, Some, None, Bool, true, false, IsTrue, IsFalse, nat_le, slice_index_or}

-- what covers each place of a row: a depth, or nothing
abbrev pub Depths : Type 0
Depths = List (Option ℕ)

-- the depth at a place; there is none beyond the row's end
abbrev pub depth_at : Depths → ℕ → Option ℕ
depth_at row k = slice_index_or row k None

-- what a place has once a depth covers it: its own depth stays
abbrev pub or_depth : ℕ → Option ℕ → Option ℕ
or_depth depth None = Some depth
or_depth depth (Some own) = Some own

-- nothing covers the place
abbrev pub is_open : Option ℕ → Bool
is_open None = true
is_open (Some depth) = false

-- no greater depth covers the place
abbrev pub is_at_most : ℕ → Option ℕ → Bool
is_at_most limit None = true
is_at_most limit (Some depth) = nat_le depth limit

-- each place from `from` to before `to` passes a test
abbrev pub AllPass : (Option ℕ → Bool) → Depths → ℕ → ℕ → Type 0
AllPass test row from to = (k : ℕ) → from ≤ k → k < to → IsTrue (test (depth_at row k))

-- none of them passes it
abbrev pub NonePass : (Option ℕ → Bool) → Depths → ℕ → ℕ → Type 0
NonePass test row from to = (k : ℕ) → from ≤ k → k < to → IsFalse (test (depth_at row k))

-- the leftmost part of the asked places, as long as it can be, all of whose places pass a test
pub record IsLeftmostPart (test : Option ℕ → Bool) (row : Depths) (asked part : ℕ × ℕ) : Type 0 where
  pub left : asked.0 ≤ part.0
  pub some : part.0 < part.1
  pub right : part.1 ≤ asked.1
  pub before : NonePass test row asked.0 part.0
  pub inside : AllPass test row part.0 part.1
  pub after : (part.1 ≡ asked.1) ⊎ IsFalse (test (depth_at row part.1))

-- that part, or nothing where none of the asked places passes
abbrev pub FindsLeftmost : (Option ℕ → Bool) → Depths → ℕ × ℕ → Option (ℕ × ℕ) → Type 0
FindsLeftmost test row asked None = NonePass test row asked.0 asked.1
FindsLeftmost test row asked (Some part) = IsLeftmostPart test row asked part
