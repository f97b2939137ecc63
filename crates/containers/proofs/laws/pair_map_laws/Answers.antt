use Rattle.containers.proofs.MapLaws.{map_laws}
use Rattle.containers.proofs.PairOrderLaws.{pair_cmp_total, pair_cmp-IsAntisymmetric}
use Rattle.containers.proofs.laws.pair_map_laws.Goals as goal

pub returns : goal.returns
returns g c = map_laws pair_cmp_total pair_cmp-IsAntisymmetric
