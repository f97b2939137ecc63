-- The counter of generations.
use Rattle.std.specs.Prelude.{ℕ, ◌+◌, ◌-◌, ◌^◌, ◌==◌, Option, Some, None, if◌then◌else◌}

-- the generation after the last one, if there is one
abbrev pub generation_after : ℕ → Option ℕ
generation_after last = if last == 2 ^ 64 - 1 then None else Some (last + 1)
