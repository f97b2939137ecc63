use Rattle.std.proofs.Common.{sym, arith}
use Rattle.painter.proofs.Frames.{frame_found}
use Rattle.scene_flatten.proofs.around.Around.home_point.Goals as goal

pub node_point-requires : goal.node_point-requires
node_point-requires c =
    let within = frame_found c.args.placed.now.list.nodes c.args.node c.in-Some.frame.node (sym c.in-Some.ensures.node) in
    omega (arith, within)
