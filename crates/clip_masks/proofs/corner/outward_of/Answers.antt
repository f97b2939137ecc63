use Rattle.std.proofs.Common.{arith}
use Rattle.std.proofs.lemmas.Int.{ints}
use Rattle.clip_masks.proofs.corner.outward_of.Goals as goal

pub returns : goal.returns
returns c = record {
  left = omega (arith, ints);
  top = omega (arith, ints);
  right = omega (arith, ints);
  bottom = omega (arith, ints);
  beside = record { low = omega (arith, ints); high = omega (arith, ints) };
  above = record { low = omega (arith, ints); high = omega (arith, ints) };
  beyond = record { low = omega (arith, ints); high = omega (arith, ints) };
  below = record { low = omega (arith, ints); high = omega (arith, ints) };
}
