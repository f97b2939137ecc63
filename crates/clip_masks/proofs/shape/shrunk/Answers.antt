use Rattle.std.proofs.Common.{arith, ◌∙◌}
use Rattle.std.proofs.lemmas.Int.{ints}
use Rattle.wr_geom.proofs.Points.{same_bounds}
use Rattle.clip_masks.proofs.shape.shrunk.Goals as goal

pub unwrap-requires : goal.unwrap-requires
unwrap-requires c =
    c.new.ensures.some.1 (record {
      across = omega (arith, ints);
      down = omega (arith, ints);
      in_range = record { left = record { low = omega (arith, ints); high = omega (arith, ints) }; top = record { low = omega (arith, ints); high = omega (arith, ints) }; right = record { low = omega (arith, ints); high = omega (arith, ints) }; bottom = record { low = omega (arith, ints); high = omega (arith, ints) } };
    })

pub returns : goal.returns
returns c = (rw c.unwrap.ensures at c.new.ensures.value) ∙ same_bounds _ _ (omega (arith, ints)) (omega (arith, ints)) (omega (arith, ints)) (omega (arith, ints))
