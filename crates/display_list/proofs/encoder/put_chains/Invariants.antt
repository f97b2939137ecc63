use Rattle.std.proofs.Common.{◌≡◌, ◌++◌, drop}
use Rattle.std.specs.List.{flat_map}
use Rattle.display_list.specs.Spelling.{chain_bytes}
use Rattle.display_list.proofs.encoder.put_chains.Given as goal

-- what is written and what is left are all
abbrev pub invariant-loop-chain : goal.invariant-loop-chain
invariant-loop-chain l = l.out.items ++ flat_map chain_bytes (drop l.chain-index l.chains) ≡ l.fn.out.items ++ flat_map chain_bytes l.chains
