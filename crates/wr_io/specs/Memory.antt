-- A source and a sink over memory.
use Rattle.std.specs.Prelude.{ℕ, ◌+◌, ◌-◌, List, ◌++◌, length, take, drop, min, Bool, ◌&&◌, ◌||◌, not, nat_lt, ◌==◌, if◌then◌else◌}
use Rattle.std.specs.List.{list_any}
use Rattle.wr_io.specs.Streams.{next_count}

-- bytes to read, how many a call may give, the numbers of the calls that fail, and how many were made and failed
pub record SourceMemory : Type 0 where
  pub bytes : List ℕ
  pub most : ℕ
  pub fail_at : List ℕ
  pub calls : ℕ
  pub faults : ℕ

-- the bytes that were written, the room that is free, and the same of calls
pub record SinkMemory : Type 0 where
  pub bytes : List ℕ
  pub free : ℕ
  pub most : ℕ
  pub fail_at : List ℕ
  pub calls : ℕ
  pub faults : ℕ

-- the call after so many is listed; calls are counted up to the last value of a u64
abbrev pub call_fails : List ℕ → ℕ → Bool
call_fails fail_at calls = nat_lt calls 18446744073709551615 && list_any (λ n. n == (calls + 1)) fail_at

abbrev pub read_fails : SourceMemory → Bool
read_fails m = call_fails m.fail_at m.calls

-- how many bytes a call that doesn't fail gives
abbrev pub read_count : SourceMemory → ℕ → ℕ
read_count m asked = min (min asked m.most) (length m.bytes)

-- what a call with room for so many bytes leaves
abbrev pub after_read : SourceMemory → ℕ → SourceMemory
after_read m asked =
    if read_fails m then record m { calls = next_count m.calls; faults = next_count m.faults } else
    record m { bytes = drop (read_count m asked) m.bytes; calls = next_count m.calls }

-- the room is full and the piece isn't empty, or the call is listed
abbrev pub write_fails : SinkMemory → List ℕ → Bool
write_fails m piece = call_fails m.fail_at m.calls || ((m.free == 0) && not (length piece == 0))

-- how many bytes a call that doesn't fail takes
abbrev pub write_count : SinkMemory → List ℕ → ℕ
write_count m piece = min (min (length piece) m.most) m.free

-- what a call with a piece leaves
abbrev pub after_write : SinkMemory → List ℕ → SinkMemory
after_write m piece =
    if write_fails m piece then record m { calls = next_count m.calls; faults = next_count m.faults } else
    record m { bytes = m.bytes ++ take (write_count m piece) piece; free = m.free - write_count m piece; calls = next_count m.calls }
