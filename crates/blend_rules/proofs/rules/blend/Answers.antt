use Rattle.std.proofs.Common.{◌∙◌, sym, ap, subst, rules}
use Rattle.blend_rules.specs.declared.colour.Px.{Px}
use Rattle.blend_rules.specs.Colour.{IsPremultiplied, blended}
use Rattle.blend_rules.proofs.Blends.{blend_is_premultiplied, clear_source_leaves, clear_backdrop_shows, opaque_covers, normal_needs_no_limit}
use Rattle.blend_rules.proofs.rules.blend.Goals as goal

pub returns-clause-premultiplied : goal.returns-clause-premultiplied
returns-clause-premultiplied c =
    let P : Px → Type 0 = λ q. IsPremultiplied q in
    subst P (sym (c.blend_in.ensures)) (blend_is_premultiplied c.args.m c.args.s c.args.d)

pub returns-clause-clear_source : goal.returns-clause-clear_source
returns-clause-clear_source c e = c.blend_in.ensures
    ∙ ap (λ s. blended c.args.m s c.args.d) e
    ∙ clear_source_leaves c.args.m c.args.d c.requires.backdrop (search rules)

pub returns-clause-clear_backdrop : goal.returns-clause-clear_backdrop
returns-clause-clear_backdrop c e = c.blend_in.ensures
    ∙ ap (blended c.args.m c.args.s) e
    ∙ clear_backdrop_shows c.args.m c.args.s c.requires.source (search rules)

pub returns-clause-opaque : goal.returns-clause-opaque
returns-clause-opaque c n e = c.blend_in.ensures
    ∙ ap (λ m. blended m c.args.s c.args.d) n
    ∙ opaque_covers c.args.s c.args.d c.requires.source e

pub returns-clause-no_limit : goal.returns-clause-no_limit
returns-clause-no_limit c n = c.blend_in.ensures
    ∙ ap (λ m. blended m c.args.s c.args.d) n
    ∙ normal_needs_no_limit c.args.s c.args.d c.requires.source c.requires.backdrop (search rules) (search rules)
