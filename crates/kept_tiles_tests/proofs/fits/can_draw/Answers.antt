use Rattle.std.proofs.Common.{arith}
use Rattle.kept_tiles_tests.proofs.Lists.{short_is_shallow}
use Rattle.kept_tiles_tests.proofs.fits.can_draw.Goals as goal

pub returns-clause-shallow : goal.returns-clause-shallow
returns-clause-shallow c t = short_is_shallow 64 c.args.entries.now (omega (arith, c.if-entries-gt-MAX_ENTRIES.false))
