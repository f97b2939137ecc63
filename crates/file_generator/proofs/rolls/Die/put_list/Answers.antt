use Rattle.std.proofs.Common.{◌≡◌, ◌++◌, ℕ, List, length, ap, ◌∙◌, arith}
use Rattle.display_list.specs.Spelling.{spelling}
use Rattle.file_generator.specs.Lists.{rolled_display_list}
use Rattle.file_generator.proofs.Lengths.{list_length}
use Rattle.file_generator.proofs.rolls.Die.put_list.Goals as goal

pub overflow_cast-len : goal.overflow_cast-len
overflow_cast-len c =
    let list = spelling (rolled_display_list c.args.self.now.state).value in
    let same : c.put_display_list.new.out.items ≡ list = c.in_ok-put_display_list.ensures.out ∙ ap (λ (o : List ℕ). o ++ list) c.clear.ensures.items in
    omega (arith, ap length same, list_length c.args.self.now.state, c.len.ensures, c.put_display_list.new.out.ok)
