use Rattle.base_tests.proofs.Toys.{bells_form}
use Rattle.base_tests.proofs.records.run_over_bells.Goals as goal

pub run_over-requires : goal.run_over-requires
run_over-requires c = bells_form
