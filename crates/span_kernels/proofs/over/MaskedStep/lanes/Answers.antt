use Rattle.blend_rules.proofs.Products.{product-mono}
use Rattle.span_kernels.proofs.Sixteen.{lanes_splat}
use Rattle.span_kernels.proofs.over.MaskedStep.lanes.Goals as goal

pub over_lanes-requires : goal.over_lanes-requires
over_lanes-requires c k lt =
    let share = c.lanes_at-share.ensures.each k lt in
    let one = (lanes_splat c.args.self.now.s).each k lt in
    let all = (lanes_splat c.args.self.now.sa).each k lt in
    rw (c.product_lanes.ensures.each k lt, c.product_lanes-alphas.ensures.each k lt, one, all) (product-mono c.args.self.now.s c.args.self.now.sa _ (c.requires k lt).1)
