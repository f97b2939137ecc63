use Rattle.std.proofs.Common.{ap, ◌∙◌}
use Rattle.display_list.specs.ListModel.{ListModel}
use Rattle.list_summary.specs.Iframes.{SummaryModel}
use Rattle.spatial_tree.specs.Offsets.{offsets_of}
use Rattle.scene_limits.specs.Places.{zero_point}
use Rattle.scene_limits.proofs.Reaches.{listed_room}
use Rattle.scene_limits.proofs.places.list_room.Goals as goal

pub returns : goal.returns
returns c = λ origin.
    let table = c.in_ok-offsets.ensures.table ∙ ap (λ (l : ListModel). offsets_of l.nodes c.args.moves.now zero_point) c.list.ensures in
    listed_room c.args.rooms.now c.args.listed.now.list c.args.moves.now c.deref.result.now c.deref-2.result.now c.iframes.result.now c.narrow_by_nodes-own.result c.narrow_by_iframes.result origin
    (c.deref.ensures.value ∙ table) (c.deref-2.ensures.value ∙ table) (c.iframes.ensures ∙ ap (λ (s : SummaryModel). s.iframes) c.summary.ensures)
    (c.narrow_by_nodes-own.ensures origin) (c.narrow_by_iframes.ensures origin)
