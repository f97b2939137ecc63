use Rattle.std.specs.Cmp.{nat_cmp_total}
use Rattle.std.specs.FinMap.{nat_cmp-IsAntisymmetric}
use Rattle.containers.proofs.MapLaws.{map_laws}
use Rattle.containers.proofs.laws.number_map_laws.Goals as goal

pub returns : goal.returns
returns g c = map_laws nat_cmp_total nat_cmp-IsAntisymmetric
