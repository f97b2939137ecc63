use Rattle.blend_rules.proofs.Products.{product-mono}
use Rattle.span_kernels.proofs.over.MaskedStep.byte.Goals as goal

pub over-requires : goal.over-requires
over-requires c = rw (c.mul-2.ensures.value, c.mul.ensures.value) (product-mono c.args.self.now.s c.args.self.now.sa _ c.requires.1)
