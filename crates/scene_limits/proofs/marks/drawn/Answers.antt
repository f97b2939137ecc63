use Rattle.std.proofs.Common.{◌≡◌, length, arith}
use Rattle.scene_limits.proofs.Marking.{drawn_there, drawn_back}
use Rattle.scene_limits.proofs.marks.drawn.Goals as goal

pub returns : goal.returns
returns c = λ q.
    let ps = c.args.pipelines.now in
    let marks = c.reached-marks.result in
    let drawn = c.only_listed.result in
    let size : length drawn ≡ 64 = omega arith in
    (drawn_there ps marks drawn q size c.reached-marks.ensures.drawn c.only_listed.ensures, drawn_back ps marks drawn q c.get-root.ensures.fit c.reached-marks.ensures.reached c.only_listed.ensures)
