use Rattle.renderer.specs.PartsModel.{model_of}
use Rattle.renderer.proofs.Finishing.{shown_by}
use Rattle.renderer.proofs.parts.show.Goals as goal

pub returns-clause-shown : goal.returns-clause-shown
returns-clause-shown c =
    shown_by c.args.next (model_of c.args.parts.now) (model_of c.draw.new.parts) (model_of c.finish.new.parts) c.in_ok-drawn.drawn c.finish.result c.in_ok-drawn.ensures.drawn c.finish.ensures.finished

pub returns-then-has_count-clause-shown : goal.returns-then-has_count-clause-shown
returns-then-has_count-clause-shown c =
    shown_by c.args.next (model_of c.args.parts.now) (model_of c.draw.new.parts) (model_of c.settle.new.parts) c.in_ok-drawn.drawn c.settle.result c.in_ok-drawn.ensures.drawn c.settle.ensures.finished
