use Rattle.frame_replay.specs.Answer.{start_state}
use Rattle.frame_replay.proofs.Replays.{none_refused}
use Rattle.frame_replay.proofs.laws.replay_laws.Goals as goal

pub returns : goal.returns
returns c stats payloads = none_refused stats payloads start_state
