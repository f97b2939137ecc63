use Rattle.std.proofs.Common.{◌+◌, ◌-◌, ◌++◌, arith}
use Rattle.std.specs.List.{flat_map}
use Rattle.blend_rules.specs.Colour.{colour_bytes}
use Rattle.file_generator.specs.Rolls.{rolled_list, rolled_grey}
use Rattle.file_generator.proofs.Repeats.{left_all, left_one, left_none}
use Rattle.file_generator.proofs.rolls.Die.put_texels.Goals as goal

pub loop-init : goal.loop-init
loop-init c = (left_all colour_bytes rolled_grey 16 c.args.out.now.items c.args.self.now.state, omega arith)

pub loop-preserved : goal.loop-preserved
loop-preserved c = (
  left_one colour_bytes rolled_grey (16 - c.loop.counter) (16 - (c.loop.counter + 1)) c.loop.out.items c.put_texel.new.out.items c.loop.self.state c.put_texel.new.self.state
      (c.args.out.now.items ++ flat_map colour_bytes (rolled_list rolled_grey 16 c.args.self.now.state).value) (rolled_list rolled_grey 16 c.args.self.now.state).state
      (omega arith) c.loop.invariant.0 c.in_ok-put_texel.ensures,
  omega arith,
)

pub returns : goal.returns
returns c = left_none colour_bytes rolled_grey 16 c.loop.out.items c.args.out.now.items c.loop.self.state c.args.self.now.state (16 - c.loop.counter) (omega arith) c.loop.invariant.0
