use Rattle.std.proofs.Common.{◌++◌, ◌∷◌, [], ap, ◌∙◌}
use Rattle.image_store.specs.Keyed.{without_keys}
use Rattle.image_store.proofs.Keys.{without_removed, without_pushed}
use Rattle.image_store.proofs.keyed_images.remove_key.Goals as goal

pub returns-then-not-take_out-clause-value : goal.returns-then-not-take_out-clause-value
returns-then-not-take_out-clause-value c =
    ap (λ l. without_keys c.take_out.new.images l) c.push_reserved.ensures.items
    ∙ ap (λ m. without_keys m (c.args.gone.now.items ++ c.args.key ∷ [])) (c.take_out.ensures.kept c.if-not-take_out.true)
    ∙ without_pushed c.args.images.now c.args.gone.now.items c.args.key

pub returns-else-not-take_out-clause-value : goal.returns-else-not-take_out-clause-value
returns-else-not-take_out-clause-value c =
    ap (λ m. without_keys m c.args.gone.now.items) (c.take_out.ensures.taken c.if-not-take_out.false)
    ∙ without_removed c.args.images.now c.args.gone.now.items c.args.key
