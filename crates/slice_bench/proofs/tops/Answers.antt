use Rattle.std.proofs.Common.{sym, subst}
use Rattle.std.specs.Prelude.{All}
use Rattle.std.proofs.lemmas.List.Elements.{All-push}
use Rattle.primitives.specs.Tops.{IsTop}
use Rattle.slice_bench.proofs.tops.Goals as goal

pub loop-k-preserved : goal.loop-k-preserved
loop-k-preserved c = subst (All IsTop) (sym c.in_ok-push.ensures.ok) (All-push IsTop c.loop-k.tops c.in_ok-top.field-0 c.loop-k.invariant c.in_ok-top.ensures)
