use Rattle.std.proofs.Common.{rules, ◌*◌}
use Rattle.span_kernels.proofs.Whole.{of_one_length}
use Rattle.span_kernels.proofs.planes.know_planes.Goals as goal

pub returns : goal.returns
returns c = record {
  wide = search rules;
  high = search rules;
  each = of_one_length c.args.planes.now (c.args.planes.now.height * c.args.planes.now.width) (search rules) (search rules) (search rules) (search rules);
}
