use Rattle.std.proofs.Common.{◌≡◌, ◌<◌, ◌^◌, subst, sym, arith}
use Rattle.black_tiles.proofs.Bytes.{AreBytes, repeated}
use Rattle.black_tiles.proofs.Writes.{written_black}
use Rattle.black_tiles.proofs.window.fill_row.Goals as goal

pub returns-clause-black : goal.returns-clause-black
returns-clause-black c sides black =
    written_black sides c.args.store.now _ c.fill.new.d (subst AreBytes (sym c.fill.ensures) (repeated _ c.args.alpha (omega (arith, c.ranges.alpha.fits)))) black
