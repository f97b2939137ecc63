use Rattle.frame_replay.proofs.Marks.{marks_are}
use Rattle.frame_replay.proofs.drawn.drawn_marks.Goals as goal

pub returns : goal.returns
returns c = marks_are c.drawn.result c.args.scene.now.pipelines c.know_scene.ensures.fit c.drawn.ensures
