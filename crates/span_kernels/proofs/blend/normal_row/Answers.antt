use Rattle.std.proofs.Common.{get_or, ◌∙◌, rules}
use Rattle.span_kernels.proofs.Bytes.{normal_is}
use Rattle.span_kernels.proofs.blend.normal_row.Goals as goal

pub returns : goal.returns
returns c i lt =
    c.over_row.ensures i lt ∙ normal_is (get_or c.args.sa.now i 0) (get_or c.args.da.now i 0) (get_or c.args.s.now i 0) (get_or c.args.d.now i 0) (c.requires.premultiplied i (search rules)) (c.requires.backdrop i (search rules)) (search rules)
