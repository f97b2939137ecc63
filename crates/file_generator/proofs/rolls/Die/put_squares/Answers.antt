use Rattle.std.proofs.Common.{◌+◌, ◌-◌, ◌++◌, arith}
use Rattle.std.specs.List.{flat_map}
use Rattle.display_list.specs.Spelling.{token_bytes}
use Rattle.file_generator.specs.Rolls.{rolled_list}
use Rattle.file_generator.specs.Lists.{rolled_square}
use Rattle.file_generator.proofs.Repeats.{left_all, left_one, left_none}
use Rattle.file_generator.proofs.rolls.Die.put_squares.Goals as goal

pub loop-init : goal.loop-init
loop-init c = (left_all token_bytes rolled_square 16 c.args.out.now.items c.args.self.now.state, omega arith)

pub loop-preserved : goal.loop-preserved
loop-preserved c = (
  left_one token_bytes rolled_square (16 - c.loop.counter) (16 - (c.loop.counter + 1)) c.loop.out.items c.put_square.new.out.items c.loop.self.state c.put_square.new.self.state
      (c.args.out.now.items ++ flat_map token_bytes (rolled_list rolled_square 16 c.args.self.now.state).value) (rolled_list rolled_square 16 c.args.self.now.state).state
      (omega arith) c.loop.invariant.0 c.in_ok-put_square.ensures,
  omega arith,
)

pub returns : goal.returns
returns c = left_none token_bytes rolled_square 16 c.loop.out.items c.args.out.now.items c.loop.self.state c.args.self.now.state (16 - c.loop.counter) (omega arith) c.loop.invariant.0
