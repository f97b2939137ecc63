-- What a `Shared` is after its value was lent for writing.
use Rattle.std.specs.Prelude.{◌≡◌, Result}
use Rattle.std.specs.Borrow.{LendsSoOk, MutBor, Fml, RattleType}
use Rattle.containers.specs.contracts.shared.Shared.{the_row}

-- it ends as the last value written, and as it was where nothing was lent
module _ (R : RattleType) (s : MutBor R.Denot) where
  abbrev pub LendsValue : {E : Type 0} → Result (MutBor R.Denot) E → Fml
  LendsValue r = LendsSoOk (the_row R) R s r (λ n w. n ≡ w) (λ n. n ≡ s.now)
