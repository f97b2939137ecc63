use Rattle.std.proofs.Common.{pos, List, sym, ap, subst, ◌∙◌}
use Rattle.std.specs.Prelude.{All}
use Rattle.picture_slices.specs.declared.slice.Slice.{Slice}
use Rattle.tile_compositor.specs.Composition.{IsPlacedIn, composed}
use Rattle.tile_compositor.specs.FrameModel.{FrameModel}
use Rattle.tile_compositor.specs.declared.placed.Placed.{Placed}
use Rattle.kept_tiles.specs.Showing.{AreShown}
use Rattle.kept_tiles.specs.Tiles.{kept_of}
use Rattle.kept_tiles.specs.Work.{frame_tiles}
use Rattle.scene_slices.specs.Picture.{view_rect}
use Rattle.renderer.specs.Drops.{sides_of}
use Rattle.renderer.specs.Frames.{AreSides, IsThere}
use Rattle.renderer.proofs.DrawnTiles.{sound_placed}
use Rattle.renderer.proofs.Finishing.{frame_shows}
use Rattle.renderer.proofs.Views.{tile_sides}
use Rattle.renderer.proofs.parts.finish.Goals as goal

pub compose_frame-requires-clause-tiles : goal.compose_frame-requires-clause-tiles
compose_frame-requires-clause-tiles c =
    let next = c.args.next in
    c.showing_laws.ensures.tiles (sides_of next.policy) c.args.parts.now.gens next.store c.args.parts.now.kept c.requires.sound

pub compose_frame-requires-clause-placed : goal.compose_frame-requires-clause-placed
compose_frame-requires-clause-placed c =
    let next = c.args.next in
    let planes = c.frame_of-frame.result.planes in
    let sides : AreSides next.view.0 next.view.1 planes = subst (IsThere (λ (f : FrameModel). AreSides next.view.0 next.view.1 f.planes)) (sym c.frame_of-frame.ensures) c.requires.frame in
    let placed = c.showing_laws.ensures.placed next.view.0 next.view.1 planes c.args.prepared.now.slices sides.width sides.height c.requires.prepared.slices.slices in
    subst (λ (l : List Placed). All (IsPlacedIn planes) l) (sym (c.as_slice.ensures ∙ c.requires.prepared.placed)) placed

pub settle-requires-clause-frame : goal.settle-requires-clause-frame
settle-requires-clause-frame c =
    let next = c.args.next in
    let last = c.args.parts.now.gens in
    let old = c.args.parts.now.kept in
    let sides = sides_of next.policy in
    let slices = c.args.prepared.now.slices in
    let is = c.know_scene.ensures in
    let shown = subst (λ (l : List Slice). AreShown next.store (kept_of old) (frame_tiles sides l)) (sym c.requires.prepared.slices.value) c.requires.shown in
    let placed = sound_placed sides last next.store (kept_of old) c.requires.sound in
    let planes = c.frame_of-frame.result.planes in
    let blank : AreSides next.view.0 next.view.1 planes = subst (IsThere (λ (f : FrameModel). AreSides next.view.0 next.view.1 f.planes)) (sym c.frame_of-frame.ensures) c.requires.frame in
    let list = c.as_slice.ensures ∙ c.requires.prepared.placed in
    frame_shows next old slices planes c.compose_frame.new.frame c.requires.prepared.slices.picture
    (λ x y. c.frame_laws.ensures.composed sides (view_rect next) next.store old slices (pos x) (pos y) next.clear (tile_sides next is) is.store c.requires.prepared.slices.slices shown placed)
    blank c.compose_frame.ensures.sides
    (λ x y hx hy. c.compose_frame.ensures.value x y hx hy ∙ ap (λ (l : List Placed). composed sides old.store.tiles l (pos x) (pos y) next.clear) list)
    c.compose_frame.ensures.opened
