-- What a `Sequence` is after one of its members was lent for writing.
use Rattle.std.specs.Prelude.{ℕ, List, slice_set}
use Rattle.std.specs.Borrow.{Lends, MutBor, Fml, RattleType}
use Rattle.containers.specs.contracts.sequence.Sequence.{the_row}

-- the last value written stands at the index
module _ (R : RattleType) (s : MutBor (List R.Denot)) where
  abbrev pub LendsMember : ℕ → MutBor R.Denot → Fml
  LendsMember index r = Lends (the_row R) R s r (slice_set s.now index)
