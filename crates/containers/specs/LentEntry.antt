-- What a `NumberMap` is after one of its values was lent for writing.
use Rattle.std.specs.Prelude.{◌≡◌, ℕ, Option}
use Rattle.std.specs.Option.{OnSome}
use Rattle.std.specs.Ordering.{nat_cmp}
use Rattle.std.specs.Borrow.{LendsSo, MutBor, Fml, RattleType}
use Rattle.std.specs.FinMap as map
use Rattle.containers.specs.contracts.number_map.NumberMap.{the_row}

-- it has the last value written at that key, and stays where nothing was lent
module _ (R : RattleType) (s : MutBor (map.FinMap nat_cmp R.Denot)) where
  abbrev pub LendsEntry : ℕ → Option (MutBor R.Denot) → Fml
  LendsEntry key r = LendsSo (the_row R) R s r (λ n w. OnSome r (n ≡ map.insert s.now key w)) (λ n. n ≡ s.now)
