use Rattle.std.proofs.Common.{sym, ap, ◌∙◌, rules}
use Rattle.blend_rules.specs.Colour.{blended}
use Rattle.blend_rules.proofs.Blends.{normal_needs_no_limit}
use Rattle.blend_rules.proofs.rules.blend_in.Goals as goal

pub returns-in-Normal : goal.returns-in-Normal
returns-in-Normal c = c.over_bytes.ensures
    ∙ sym (normal_needs_no_limit c.args.s c.args.d c.requires.source c.requires.backdrop (search rules) (search rules))
    ∙ ap (λ m. blended m c.args.s c.args.d) (sym c.in-Normal.is)
