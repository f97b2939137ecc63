use Rattle.frame_replay.proofs.Rendering.{replays_by}
use Rattle.frame_replay.proofs.replaying.apply.Goals as goal

pub returns : goal.returns
returns c = replays_by c.args.payload.now c.in_ok-txn.txn c.args.renderer.now c.apply.new.self c.in_ok-txn.ensures c.apply.result c.apply.ensures
