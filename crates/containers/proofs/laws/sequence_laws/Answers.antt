use Rattle.containers.proofs.SequenceLaws.{pointwise-TellsEqual, slice_cmp-TiesEqual}
use Rattle.containers.proofs.laws.sequence_laws.Goals as goal

pub returns : goal.returns
returns g c = record {
  equality = pointwise-TellsEqual _;
  order = slice_cmp-TiesEqual _;
}
