use Rattle.record_frame.proofs.FirstRecords.{transactions_form}
use Rattle.frame_replay.proofs.replaying.replay_on.Goals as goal

pub records_status-requires : goal.records_status-requires
records_status-requires g c = transactions_form
