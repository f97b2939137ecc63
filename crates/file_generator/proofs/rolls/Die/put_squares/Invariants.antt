use Rattle.std.proofs.Common.{◌-◌, ◌≤◌, ◌++◌}
use Rattle.std.specs.List.{flat_map}
use Rattle.display_list.specs.Spelling.{token_bytes}
use Rattle.file_generator.specs.Rolls.{rolled_list}
use Rattle.file_generator.specs.Lists.{rolled_square}
use Rattle.file_generator.proofs.Repeats.{IsLeft}
use Rattle.file_generator.proofs.rolls.Die.put_squares.Given as goal

-- what is left to put leads to all
abbrev pub invariant-loop : goal.invariant-loop
invariant-loop l =
    IsLeft token_bytes rolled_square (16 - l.counter) l.out.items l.self.state
    (l.fn.out.items ++ flat_map token_bytes (rolled_list rolled_square 16 l.fn.self.state).value) (rolled_list rolled_square 16 l.fn.self.state).state
    × (l.counter ≤ 16)
