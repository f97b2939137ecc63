use Rattle.file_generator.proofs.ListBytes.{on_ok, list_put}
use Rattle.file_generator.proofs.rolls.Die.put_display_list.Goals as goal

pub returns : goal.returns
returns c =
    on_ok c.put_byte.result
    (λ e.
    list_put c.args.out.now.items c.put_definitions.new.out.items c.put_items.new.out.items c.put_byte.new.out.items c.args.self.now.state c.put_items.new.self.state
    c.in_ok-put_definitions.ensures c.in_ok-put_items.ensures e)
    c.put_byte.ensures
