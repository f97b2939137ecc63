use Rattle.std.proofs.Common.{sym, ◌∙◌, rules}
use Rattle.blend_rules.proofs.Channels.{alpha_sum-rest}
use Rattle.blend_rules.proofs.rules.alpha_of.Goals as goal

pub returns : goal.returns
returns c = c.over.ensures ∙ sym (alpha_sum-rest c.args.sa c.args.da (search rules))
