-- What planes are after a part of a row was lent for writing.
use Rattle.std.specs.Prelude.{ℕ, List}
use Rattle.std.specs.Borrow.{Lends, MutBor, Fml, u8, Array}
use Rattle.blend_rules.specs.declared.plane.Plane.{Plane}
use Rattle.span_kernels.specs.contracts.planes.Planes.{the_row}
use Rattle.span_kernels.specs.PlanesModel.{PlanesModel, with_part}

-- they end with the last bytes behind r in that part of the row
abbrev pub LendsPart : MutBor PlanesModel → Plane → ℕ → ℕ → MutBor (List ℕ) → Fml
LendsPart planes plane y x r = Lends the_row (Array u8 0) planes r (λ bytes. with_part plane y x bytes planes.now)
