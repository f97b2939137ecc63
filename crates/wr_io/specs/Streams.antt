-- What calls on sources and sinks do, where the bytes are told.
use Rattle.std.specs.Prelude.{◌≡◌, ◌≢◌, ℕ, ◌+◌, ◌<◌, ◌≤◌, List, [], ◌++◌, length, take, drop, min, Option, Some, Result, Ok, Err}
use Rattle.wr_io.specs.declared.streams.Failed.{Failed}

-- the count of failed calls rose, or stands at the last value of a u64
abbrev pub HasFailed : ℕ → ℕ → Type 0
HasFailed old new = new ≢ 18446744073709551615 → old < new

-- one more, up to the last value of a u64
abbrev pub next_count : ℕ → ℕ
next_count n = min (n + 1) 18446744073709551615

-- the count of failed calls after one more call
abbrev pub failures_after : {X : Type 0} → Result X Failed → ℕ → ℕ
failures_after (Ok x) failures = failures
failures_after (Err e) failures = next_count failures

-- n bytes of those that were left are now the first n of out, and the others are left; n is 0, for an out with room, only where none was left
pub record ReadsFrom (bytes : List ℕ) (new : Option (List ℕ)) (out : List ℕ) (n : ℕ) : Type 0 where
  pub within : n ≤ length bytes
  pub put : take n out ≡ take n bytes
  pub rest : new ≡ Some (drop n bytes)
  pub end : n ≡ 0 → 0 < length out → bytes ≡ []

-- out is filled with the next bytes, as far as there are any
pub record ReadsExactly (bytes : List ℕ) (new : Option (List ℕ)) (out : List ℕ) (n : ℕ) : Type 0 where
  pub count : n ≡ min (length out) (length bytes)
  pub put : take n out ≡ take n bytes
  pub rest : new ≡ Some (drop n bytes)

-- the first bytes were taken, fewer than asked, and the others are left
pub record LeavesSome (bytes : List ℕ) (new : Option (List ℕ)) (asked : ℕ) : Type 0 where
  pub taken : ℕ
  pub fewer : taken < asked
  pub within : taken ≤ length bytes
  pub rest : new ≡ Some (drop taken bytes)

-- the first n bytes of a piece were appended
abbrev pub WritesPart : List ℕ → Option (List ℕ) → List ℕ → ℕ → Type 0
WritesPart bytes new piece n = new ≡ Some (bytes ++ take n piece)

-- the first bytes of a piece were appended, but not the whole of it
pub record WritesStrictPart (bytes : List ℕ) (new : Option (List ℕ)) (piece : List ℕ) : Type 0 where
  pub count : ℕ
  pub fewer : count < length piece
  pub part : new ≡ Some (bytes ++ take count piece)
