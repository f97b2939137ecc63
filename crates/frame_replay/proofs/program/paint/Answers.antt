use Rattle.record_frame.proofs.FirstRecords.{transactions_form}
use Rattle.frame_replay.proofs.program.paint.Goals as goal

pub answer_status-requires : goal.answer_status-requires
answer_status-requires g c = transactions_form

pub returns-clause-told : goal.returns-clause-told
returns-clause-told g c = rw c.new-painting.ensures at c.answer_status.ensures.told
