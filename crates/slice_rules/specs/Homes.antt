-- The scroll frames with which things move.
use Rattle.std.specs.Prelude.{ℕ, ◌==◌, ◌&&◌, Bool, true, false, Option, Some, None}

-- the scroll frame that moves something with all around it, by its pipeline and scroll number, or none
abbrev pub Home : Type 0
Home = Option (ℕ × ℕ)

-- whether two homes are the same
abbrev pub same_home : Home → Home → Bool
same_home None None = true
same_home None (Some h) = false
same_home (Some g) None = false
same_home (Some g) (Some h) = g.0 == h.0 && g.1 == h.1
