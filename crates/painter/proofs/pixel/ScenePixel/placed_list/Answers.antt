use Rattle.std.proofs.Common.{◌∙◌, sym, ap, subst, option_copied}
use Rattle.painter.specs.Facts.{Reaches}
use Rattle.painter.specs.Painter.{ScenePixel}
use Rattle.painter.proofs.Reaching.{has_placed}
use Rattle.painter.proofs.pixel.ScenePixel.placed_list.Goals as goal

pub invariant_of-result : goal.invariant_of-result
invariant_of-result c =
    has_placed c.self.inside.pipelines.now c.args.pipeline c.args.origin c.get-has.result.now c.in_ok-listed.listed.now c.list.result.now c.moves.result.now c.get-has.ensures.fit c.get-has.ensures.value
    (sym c.listed.ensures ∙ ap option_copied c.in_ok-listed.was) c.list.ensures c.moves.ensures
    (subst (λ (s : ScenePixel). Reaches s.pipelines c.args.pipeline c.args.origin) (sym c.self.view_is) c.requires)
