use Rattle.std.proofs.Common.{arith, true, false}
use Rattle.std.proofs.lemmas.Int.{ints}
use Rattle.clip_masks.proofs.Points.{kept_is}
use Rattle.clip_masks.proofs.shape.Rounded.kept.Goals as goal

pub returns-then-keeps_tips-clause-value : goal.returns-then-keeps_tips-clause-value
returns-then-keeps_tips-clause-value c =
    kept_is c.args.self.now c.args.x c.args.y c.args.i c.args.j _ _ true c.requires.pixel c.requires.across c.requires.down (omega (arith, ints)) (omega (arith, ints)) c.if-keeps_tips.ensures

pub returns-else-keeps_tips-clause-value : goal.returns-else-keeps_tips-clause-value
returns-else-keeps_tips-clause-value c =
    kept_is c.args.self.now c.args.x c.args.y c.args.i c.args.j _ _ false c.requires.pixel c.requires.across c.requires.down (omega (arith, ints)) (omega (arith, ints)) c.if-keeps_tips.ensures
