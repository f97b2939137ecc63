use Rattle.painter.proofs.Painted.{around_under}
use Rattle.painter.proofs.pixel.ScenePixel.inside.Goals as goal

pub returns-clause-cover : goal.returns-clause-cover
returns-clause-cover c a e = around_under c.args.self.now c.args.placed.now c.args.spot a.clips c.args.around.cover c.under_iframe.result e c.under_iframe.ensures
