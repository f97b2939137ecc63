use Rattle.image_store.proofs.Checking.{IsChecked}
use Rattle.image_store.proofs.check.first_bad_texel.Given as goal

abbrev pub invariant-loop-i : goal.invariant-loop-i
invariant-loop-i l = IsChecked l.number l.i l.bytes
