use Rattle.std.proofs.Common.{◌+◌, ◌-◌, ◌++◌, arith}
use Rattle.std.specs.List.{flat_map}
use Rattle.display_list.specs.Spelling.{token_bytes}
use Rattle.file_generator.specs.Rolls.{rolled_list}
use Rattle.file_generator.specs.Lists.{rolled_overlay}
use Rattle.file_generator.proofs.Repeats.{left_all, left_one, left_none}
use Rattle.file_generator.proofs.rolls.Die.put_overlays.Goals as goal

pub loop-init : goal.loop-init
loop-init c = (left_all token_bytes rolled_overlay 4 c.args.out.now.items c.args.self.now.state, omega arith)

pub loop-preserved : goal.loop-preserved
loop-preserved c = (
  left_one token_bytes rolled_overlay (4 - c.loop.counter) (4 - (c.loop.counter + 1)) c.loop.out.items c.put_overlay.new.out.items c.loop.self.state c.put_overlay.new.self.state
      (c.args.out.now.items ++ flat_map token_bytes (rolled_list rolled_overlay 4 c.args.self.now.state).value) (rolled_list rolled_overlay 4 c.args.self.now.state).state
      (omega arith) c.loop.invariant.0 c.in_ok-put_overlay.ensures,
  omega arith,
)

pub returns : goal.returns
returns c = left_none token_bytes rolled_overlay 4 c.loop.out.items c.args.out.now.items c.loop.self.state c.args.self.now.state (4 - c.loop.counter) (omega arith) c.loop.invariant.0
