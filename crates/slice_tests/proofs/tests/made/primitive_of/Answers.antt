use Rattle.std.proofs.Common.{length}
use Rattle.slice_tests.proofs.Made.{one, one_solid}
use Rattle.slice_tests.proofs.tests.made.primitive_of.Goals as goal

pub returns : goal.returns
returns c =
    one_solid c.push.new.self c.in_ok-solid.field-0 (length c.args.piece.now.clips.now) c.args.piece.now.colour c.in_ok-rect.field-0 c.in_ok-clips.clips
    (one c.new-entries.result c.push.new.self c.in_ok-solid.field-0 c.new-entries.ensures c.in_ok-push.ensures.ok) c.in_ok-solid.ensures c.in_ok-clips.ensures.count c.in_ok-rect.ensures c.in_ok-clips.ensures.close
