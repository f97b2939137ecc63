use Rattle.std.proofs.Common.{sym, subst}
use Rattle.kept_tiles.specs.Steps.{ArePlaced}
use Rattle.kept_tiles.specs.Tiles.{kept_of}
use Rattle.kept_tiles_tests.specs.Sides.{sides}
use Rattle.kept_tiles_tests.proofs.Lists.{placed_first}
use Rattle.kept_tiles_tests.proofs.bench.Bench.trim.Goals as goal

pub invariant_of-self : goal.invariant_of-self
invariant_of-self c = (subst (ArePlaced sides) (sym c.trim.ensures.kept) (placed_first sides c.args.budget (kept_of c.self.inside.kept) c.self.invariant.0), c.self.invariant.1)
