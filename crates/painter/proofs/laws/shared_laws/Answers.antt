use Rattle.slice_rules.proofs.Common.{shared_begin_each, shared_sharable, shared_most, homeless_none}
use Rattle.slice_rules.proofs.Runs.{slices_some}
use Rattle.painter.proofs.OutsideShown.{each_home, clear_outside}
use Rattle.painter.proofs.laws.shared_laws.Goals as goal

pub returns : goal.returns
returns c = record {
  homes = each_home;
  first = shared_begin_each;
  sharable = shared_sharable;
  most = shared_most;
  homeless = homeless_none;
  some = slices_some;
  shown = clear_outside;
}
