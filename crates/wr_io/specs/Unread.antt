-- What is left to read of some bytes, and the position of its first byte.
use Rattle.std.specs.Prelude.{ℕ, List}

pub record Unread : Type 0 where
  pub at : ℕ
  pub bytes : List ℕ
