use Rattle.record_frame.proofs.FirstRecords.{transactions_form}
use Rattle.base_tests.proofs.records.run_over_payloads.Goals as goal

pub run_over-requires : goal.run_over-requires
run_over-requires g c = transactions_form
