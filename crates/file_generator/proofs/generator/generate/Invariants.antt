use Rattle.std.proofs.Common.{◌≡◌, ◌≤◌, ◌-◌, ◌++◌}
use Rattle.std.specs.List.{flat_map}
use Rattle.record_frame.specs.Transactions.{input_magic}
use Rattle.file_generator.specs.Files.{framed, payloads}
use Rattle.file_generator.proofs.FileBytes.{left_framed}
use Rattle.file_generator.proofs.generator.generate.Given as goal

-- what is put, with the payloads that are left, is all
abbrev pub invariant-loop : goal.invariant-loop
invariant-loop l = record {
  put : l.out.items ++ left_framed l.generator (l.count - l.counter) ≡ input_magic ++ flat_map framed (payloads l.number l.count);
  next : l.generator.next ≡ l.counter;
  last : l.counter ≤ l.count;
}
