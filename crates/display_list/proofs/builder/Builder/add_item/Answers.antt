use Rattle.std.proofs.Common.{refl}
use Rattle.display_list.proofs.Trees.{item_step}
use Rattle.display_list.proofs.builder.Builder.add_item.Goals as goal

pub returns : goal.returns
returns c = record {
  items = rw (c.in_ok-push.ensures.items, c.make_room.ensures, ← c.self.view_is, item_step c.self.inside.contexts.items c.self.inside.items.items c.args.item) refl;
}
