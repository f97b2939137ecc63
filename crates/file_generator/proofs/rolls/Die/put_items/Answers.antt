use Rattle.file_generator.proofs.ListBytes.{on_ok, items_put}
use Rattle.file_generator.proofs.rolls.Die.put_items.Goals as goal

pub returns : goal.returns
returns c =
    on_ok c.put_end.result
    (λ e.
    items_put c.args.out.now.items c.put_ground.new.out.items c.put_squares.new.out.items c.put_context.new.out.items c.put_overlays.new.out.items c.put_end.new.out.items
    c.args.self.now.state c.put_squares.new.self.state c.roll-mode.new.self.state c.put_overlays.new.self.state c.roll-mode.result
    c.in_ok-put_ground.ensures c.in_ok-put_squares.ensures c.roll-mode.ensures.value c.in_ok-put_context.ensures c.in_ok-put_overlays.ensures e)
    c.put_end.ensures
