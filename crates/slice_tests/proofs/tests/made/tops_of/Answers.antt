use Rattle.std.proofs.Common.{sym, subst}
use Rattle.std.specs.Prelude.{All}
use Rattle.std.proofs.lemmas.List.Elements.{All-push}
use Rattle.primitives.specs.Tops.{IsTop}
use Rattle.slice_tests.proofs.tests.made.tops_of.Goals as goal

pub loop-piece-preserved : goal.loop-piece-preserved
loop-piece-preserved c = subst (All IsTop) (sym c.in_ok-push.ensures.ok) (All-push IsTop c.loop-piece.tops c.in_ok-top_of.field-0 c.loop-piece.invariant c.in_ok-top_of.ensures)
