use Rattle.frame_replay.proofs.Marks.{drawn_both}
use Rattle.frame_replay.proofs.laws.drawn_laws.Goals as goal

pub returns : goal.returns
returns c s p h = drawn_both s.pipelines p h.fit
