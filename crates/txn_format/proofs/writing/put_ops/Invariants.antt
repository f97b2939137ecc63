use Rattle.std.proofs.Common.{◌≡◌, ◌++◌, drop}
use Rattle.txn_format.proofs.PutOps.{ops_bytes}
use Rattle.txn_format.proofs.writing.put_ops.Given as goal

-- what is written and what is left are all
abbrev pub invariant-loop-placed : goal.invariant-loop-placed
invariant-loop-placed l = l.out.items ++ ops_bytes (drop l.placed-index l.ops) ≡ l.fn.out.items ++ ops_bytes l.ops
