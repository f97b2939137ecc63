use Rattle.std.proofs.Common.{List, [], ◌∷◌, ap, ◌∙◌}
use Rattle.clip_masks.specs.declared.clip.Clip.{Clip}
use Rattle.display_list.specs.Trees.{tree_of}
use Rattle.primitives.specs.declared.entry.Entry.{Entry}
use Rattle.scene_flatten.specs.Entries.{primitive_entry}
use Rattle.scene_flatten.specs.Tops.{top_at}
use Rattle.scene_flatten.proofs.Lone.{primitive_is_top}
use Rattle.scene_flatten.proofs.shown.Walk.add_primitive_top.Goals as goal

pub returns-in_ok-push-clause-value : goal.returns-in_ok-push-clause-value
returns-in_ok-push-clause-value c =
    let a = c.args.around.now in
    let l = c.args.placed.now in
    let spot = c.in-Some.spot in
    let shown = c.in-Some.kind in
    primitive_is_top c.args.self.now.pipelines.now c.args.self.now.store.now a l (tree_of c.args.item.now) c.in_ok-spot.field-0 (spot, shown) c.in_ok-top.field-0 c.args.out.now c.push.new.self
    c.in_ok-spot.ensures.value c.in-Some.is
    (c.in_ok-top.ensures.value
    ∙ ap (λ (es : List Entry). top_at a l spot.node spot.chain es)
    (c.in_ok-entries.ensures ∙ ap (λ (e : Entry). e ∷ []) (c.in_ok-entry.ensures.value ∙ ap (λ (cs : List Clip). primitive_entry l cs spot shown) c.clips.ensures)))
    c.in_ok-push.ensures.ok
