use Rattle.std.proofs.Common.{◌-◌, ◌≤◌, ◌++◌}
use Rattle.std.specs.List.{flat_map}
use Rattle.blend_rules.specs.Colour.{colour_bytes}
use Rattle.file_generator.specs.Rolls.{rolled_list, rolled_grey}
use Rattle.file_generator.proofs.Repeats.{IsLeft}
use Rattle.file_generator.proofs.rolls.Die.put_texels.Given as goal

-- what is left to put leads to all
abbrev pub invariant-loop : goal.invariant-loop
invariant-loop l =
    IsLeft colour_bytes rolled_grey (16 - l.counter) l.out.items l.self.state
    (l.fn.out.items ++ flat_map colour_bytes (rolled_list rolled_grey 16 l.fn.self.state).value) (rolled_list rolled_grey 16 l.fn.self.state).state
    × (l.counter ≤ 16)
