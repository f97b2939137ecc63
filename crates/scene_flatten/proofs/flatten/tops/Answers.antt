use Rattle.std.proofs.Common.{refl, sym, subst, ◌∙◌}
use Rattle.scene_limits.specs.Places.{zero_point}
use Rattle.pipelines.specs.Table.{PipelineMap}
use Rattle.primitives.specs.Tops.{AreTops}
use Rattle.painter.specs.Facts.{Reaches}
use Rattle.scene_flatten.proofs.Flat.{scene_reaches, scene_tops_are}
use Rattle.scene_flatten.proofs.flatten.tops.Goals as goal

pub add_pipeline_tops-requires-clause-reach : goal.add_pipeline_tops-requires-clause-reach
add_pipeline_tops-requires-clause-reach c = subst (λ (ps : PipelineMap). Reaches ps 0 zero_point) (sym c.pipelines.ensures) (scene_reaches c.args.scene.now c.know_scene.ensures)

pub returns-clause-tops : goal.returns-clause-tops
returns-clause-tops c =
    subst AreTops (sym (c.in_ok-add_pipeline_tops.ensures ∙ rw (c.new-out.ensures, c.pipelines.ensures, c.store.ensures, c.nothing-around.ensures) refl)) (scene_tops_are c.args.scene.now c.know_scene.ensures)
