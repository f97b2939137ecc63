use Rattle.std.proofs.Common.{◌≡◌, ◌++◌, drop}
use Rattle.std.specs.List.{flat_map}
use Rattle.field_forms.specs.Spelling.{u16_bytes}
use Rattle.display_list.proofs.encoder.put_numbers.Given as goal

-- what is written and what is left are all
abbrev pub invariant-loop-n : goal.invariant-loop-n
invariant-loop-n l = l.out.items ++ flat_map u16_bytes (drop l.n-index l.numbers) ≡ l.fn.out.items ++ flat_map u16_bytes l.numbers
