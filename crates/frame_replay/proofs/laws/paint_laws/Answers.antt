use Rattle.frame_replay.proofs.Replays.{paint_is_replay}
use Rattle.frame_replay.proofs.laws.paint_laws.Goals as goal

pub returns : goal.returns
returns c = paint_is_replay
