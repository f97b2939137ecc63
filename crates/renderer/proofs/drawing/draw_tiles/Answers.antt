use Rattle.std.proofs.Common.{length, ap, ◌∙◌, arith}
use Rattle.kept_tiles.specs.Work.{frame_tiles}
use Rattle.scene_slices.specs.Picture.{view_rect}
use Rattle.renderer.specs.Drops.{sides_of}
use Rattle.renderer.proofs.Views.{tile_sides, view_sides}
use Rattle.renderer.proofs.drawing.draw_tiles.Goals as goal

pub show_slices-requires-clause-room : goal.show_slices-requires-clause-room
show_slices-requires-clause-room c =
    let scene = c.args.scene.now in
    let view = c.showing_laws.ensures.view scene.view.0 scene.view.1 (view_sides scene c.know_scene.ensures) in
    let few = c.frame_laws.ensures.few (sides_of scene.policy) (view_rect scene) c.args.slices.now (tile_sides scene c.know_scene.ensures) view c.requires.slices.slices in
    let same = ap (λ sides. length (frame_tiles sides c.args.slices.now)) (c.sides_of.ensures ∙ ap sides_of c.policy.ensures) in
    omega (arith, few, same, c.requires.few)
